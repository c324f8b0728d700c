-- The least duplicate, of which the least twin, the least clash with a first and the least that is one by itself tell.
use Rattle.std.proofs.Common.{◌≡◌, ◌≢◌, ◌⊎◌, ℕ, zero, suc, ◌+◌, ◌<◌, ◌≤◌, Bool, true, false, Option, Some, None, List, length, map, get_or, refl, sym, ◌∙◌, ap, subst, inl, inr, arith}
use Rattle.std.specs.List.{slice_get}
use Rattle.std.proofs.lemmas.Bool.{cases_lt, cases_order}
use Rattle.std.proofs.lemmas.Option.{slice_get_within, get_or_from_slice_get}
use Rattle.dc_base.specs.declared.names.TypeId.{TypeId}
use Rattle.dc_base.specs.declared.names.MemberId.{MemberId}
use Rattle.dc_base.specs.declared.ty.Ty.{Ty}
use Rattle.dc_causes.specs.First.{IsLeast}
use Rattle.class_rows.specs.declared.row.TypeRow.{TypeRow}
use Rattle.class_rows.specs.declared.row.MemberRow.{MemberRow}
use Rattle.class_rows.specs.declared.row.Param.{Param}
use Rattle.class_rows.specs.declared.row.Sort.{Sort}
use Rattle.class_rows.specs.declared.row.Sort.TheVariants.{Getter, Setter}
use Rattle.class_rows.specs.Names.{IsReference}
use Rattle.class_rows.specs.Members.{IsNameless, Agree, MayShareName, AreOverloads, IsOverloaded, known_as, name_of, sort_of, types_of}
use Rattle.class_rows.specs.Unique.{AreBeside, IsAgreeing, IsClashing, IsDuplicate}
use Rattle.class_keys.specs.Least.{IsLeastOf}
use Rattle.class_keys.proofs.Items.{one_item, item_at}
use Rattle.class_alike.specs.Named.{AreMarks}
use Rattle.class_members.specs.Known.{IsLone, IsLoneRow}
use Rattle.class_members.specs.Twins.{told_by, told_types, AreOneOverload, AreTwins, HasTwin}
use Rattle.class_members.specs.Groups.{GoesWith, IsFirstClash}

-- the least number of one fact is that of another, where the first comes no later
pub least_of_sooner : (P Q : ℕ → Type 0) (least : Option ℕ) → ((n : ℕ) → P n → Q n) → ((n : ℕ) → Q n → ((k : ℕ) → k ≤ n → P k → ⊥) → ⊥) → IsLeastOf P least → IsLeastOf Q least
least_of_sooner P Q None to sooner none = λ n q. sooner n q (λ k le. none k)
least_of_sooner P Q (Some n) to sooner first = record {
  holds = to n first.holds;
  least = λ m lt q. sooner m q (λ k le. first.least k (omega (arith, lt, le)));
}

-- it can't be that a fact holds of a number and that there is no least one
none_least : (P : ℕ → Type 0) → ((f : ℕ) → IsLeast P f → ⊥) → (n j : ℕ) → j < n → P j → ⊥
none_least P none zero j lt p = absurd (omega (arith, lt))
none_least P none (suc n) j lt p = none j (record { holds = p; least = λ k less. none_least P none n k (omega (arith, less, lt)) })

not_none_least : (P : ℕ → Type 0) (n : ℕ) → P n → ((f : ℕ) → IsLeast P f → ⊥) → ⊥
not_none_least P n p none = none_least P none (n + 1) n (omega arith) p

-- the flag of a member that has a name is down
flag_down : (b : Bool) → (b ≡ true → ⊥) → b ≡ false
flag_down true up = absurd (up refl)
flag_down false up = refl

down_at : (types : List TypeRow) (members : List MemberRow) (explicit : List (MemberId × MemberId)) (flags : List Bool) (m : ℕ) (row : MemberRow) → AreMarks types members explicit flags → slice_get members m ≡ Some row → (IsNameless types members explicit m → ⊥) → slice_get flags m ≡ Some false
down_at types members explicit flags m row are stands named =
    let lt = slice_get_within members m row stands in
    let long = are.long in
    let flag = item_at flags m (omega (arith, lt, long)) in
    flag.1 ∙ ap Some (flag_down flag.0 (λ up. named (are.yes_ m (flag.1 ∙ ap Some up))))

named_at : (types : List TypeRow) (members : List MemberRow) (explicit : List (MemberId × MemberId)) (flags : List Bool) (m : ℕ) → AreMarks types members explicit flags → slice_get flags m ≡ Some false → IsNameless types members explicit m → ⊥
named_at types members explicit flags m are down nameless = let both : Some false ≡ Some true = sym down ∙ are.no_ m nameless in cc

one_known : (a b : MemberRow) → Agree a b → known_as a ≡ known_as b
one_known a b agree = ap (λ (s : Sort). name_of s a.name) agree.sort ∙ ap (λ (n : List ℕ). name_of (sort_of b.kind) n) agree.name

one_told : (a b : MemberRow) → sort_of a.kind ≡ sort_of b.kind → types_of a ≡ types_of b → told_types a ≡ told_types b
one_told a b sort types = ap (λ (s : Sort). told_by s (types_of a)) sort ∙ ap (λ (ts : List Ty). told_by (sort_of b.kind) ts) types

one_overload : (a b : MemberRow) → Agree a b → AreOneOverload a b
one_overload a b agree = record {
  name = one_known a b agree;
  sort = agree.sort;
  told = one_told a b agree.sort (ap (λ (ps : List Param). map (λ (p : Param). p.ty) ps) agree.params);
}

-- members of one overload may not share a name
told_overloaded : (s : Sort) (types : List Ty) → IsOverloaded s → told_by s types ≡ types
told_overloaded s types (inl e) = rw e refl
told_overloaded s types (inr (inl e)) = rw e refl
told_overloaded s types (inr (inr (inl e))) = rw e refl
told_overloaded s types (inr (inr (inr e))) = rw e refl

get_set : {G : Type 0} (s : Sort) → s ≡ Getter → s ≡ Setter → G
get_set s g t = let e : Getter ≡ Setter = sym g ∙ t in absurd cc

get_overloaded : (s : Sort) → s ≡ Getter → IsOverloaded s → ⊥
get_overloaded s g (inl e) = let b = sym g ∙ e in cc
get_overloaded s g (inr (inl e)) = let b = sym g ∙ e in cc
get_overloaded s g (inr (inr (inl e))) = let b = sym g ∙ e in cc
get_overloaded s g (inr (inr (inr e))) = let b = sym g ∙ e in cc

set_overloaded : (s : Sort) → s ≡ Setter → IsOverloaded s → ⊥
set_overloaded s g (inl e) = let b = sym g ∙ e in cc
set_overloaded s g (inr (inl e)) = let b = sym g ∙ e in cc
set_overloaded s g (inr (inr (inl e))) = let b = sym g ∙ e in cc
set_overloaded s g (inr (inr (inr e))) = let b = sym g ∙ e in cc

not_shared : (a b : MemberRow) → AreOneOverload a b → MayShareName a b → ⊥
not_shared a b one (inl p) = get_set (sort_of b.kind) (sym one.sort ∙ p.gets) p.sets
not_shared a b one (inr (inl p)) = get_set (sort_of a.kind) (one.sort ∙ p.gets) p.sets
not_shared a b one (inr (inr o)) =
    let here = told_overloaded (sort_of a.kind) (types_of a) o.overloaded in
    let there = told_overloaded (sort_of b.kind) (types_of b) (subst (λ (s : Sort). IsOverloaded s) one.sort o.overloaded) in
    o.apart (sym here ∙ one.told ∙ there)

twin_is : (types : List TypeRow) (members : List MemberRow) (explicit : List (MemberId × MemberId)) (flags : List Bool) (m : ℕ) → AreMarks types members explicit flags → HasTwin types members flags m → IsDuplicate types members explicit m
twin_is types members explicit flags m are h =
    let beside : AreBeside types members explicit m h.n = record {
      apart = h.apart;
      named = named_at types members explicit flags m are h.named;
      other_named = named_at types members explicit flags h.n are h.other_named;
      a = h.a;
      stands = h.stands;
      b = h.b;
      other_stands = h.other_stands;
      one_owner = h.one_owner;
    } in
    elim h.twins [
      | inl own ↦ inl (record { n = h.n; beside = beside; agree = own.1 })
      | inr reference ↦ inr (inl (record { n = h.n; beside = beside; reference = reference.0; one_name = reference.1.name; not_shared = not_shared h.a h.b reference.1 }))
    ]

swap_share : (a b : MemberRow) → MayShareName a b → MayShareName b a
swap_share a b (inl p) = inr (inl p)
swap_share a b (inr (inl p)) = inl p
swap_share a b (inr (inr o)) = inr (inr (record { one_sort = sym o.one_sort; overloaded = subst (λ (s : Sort). IsOverloaded s) o.one_sort o.overloaded; apart = λ e. o.apart (sym e) }))

odd_is : (types : List TypeRow) (members : List MemberRow) (explicit : List (MemberId × MemberId)) (flags : List Bool) (f : ℕ) → AreMarks types members explicit flags → IsFirstClash types members flags f → IsDuplicate types members explicit f
odd_is types members explicit flags f are clash =
    let goes = clash.1.first.holds in
    inr (inl (record {
      n = clash.0;
      beside = record {
        apart = clash.1.apart;
        named = named_at types members explicit flags f are goes.other_named;
        other_named = named_at types members explicit flags clash.0 are goes.named;
        a = goes.b;
        stands = goes.other_stands;
        b = goes.a;
        other_stands = goes.stands;
        one_owner = sym goes.one_owner;
      };
      reference = subst (λ (o : TypeId). IsReference types o.0) goes.one_owner goes.reference;
      one_name = sym goes.one_name;
      not_shared = λ may. clash.1.clash (swap_share goes.b goes.a may);
    }))

lone_is : (types : List TypeRow) (members : List MemberRow) (explicit : List (MemberId × MemberId)) (flags : List Bool) (m : ℕ) → AreMarks types members explicit flags → IsLone types members flags m → IsDuplicate types members explicit m
lone_is types members explicit flags m are h = elim h.lone [
  | inl misplaced ↦ inr (inr (inr (record { row = h.row; stands = h.stands; is = misplaced })))
  | inr nested ↦ inr (inr (inl (record {
    row = h.row;
    stands = h.stands;
    named = named_at types members explicit flags m are (h.flag ∙ ap Some nested.0);
    reference = nested.1.0;
    inner = nested.1.1.0;
    nested = nested.1.1.1;
    one_name = nested.1.1.2;
  })))
]

-- the fact that the code finds
abbrev pub IsFound : List TypeRow → List MemberRow → List Bool → ℕ → Type 0
IsFound types members flags m = (HasTwin types members flags m ⊎ IsFirstClash types members flags m) ⊎ IsLone types members flags m

found_is : (types : List TypeRow) (members : List MemberRow) (explicit : List (MemberId × MemberId)) (flags : List Bool) (m : ℕ) → AreMarks types members explicit flags → IsFound types members flags m → IsDuplicate types members explicit m
found_is types members explicit flags m are found = elim found [
  | inl either ↦ elim either [
    | inl twin ↦ twin_is types members explicit flags m are twin
    | inr odd ↦ odd_is types members explicit flags m are odd
  ]
  | inr lone ↦ lone_is types members explicit flags m are lone
]

-- two members beside one another, by their flags
agreeing_not : (types : List TypeRow) (members : List MemberRow) (explicit : List (MemberId × MemberId)) (flags : List Bool) (m : ℕ) → AreMarks types members explicit flags → IsAgreeing types members explicit m → (HasTwin types members flags m → ⊥) → ⊥
agreeing_not types members explicit flags m are h none =
    let with_ : AreTwins types h.beside.a h.beside.b → HasTwin types members flags m = λ twins. record {
      named = down_at types members explicit flags m h.beside.a are h.beside.stands h.beside.named;
      n = h.n;
      apart = h.beside.apart;
      other_named = down_at types members explicit flags h.n h.beside.b are h.beside.other_stands h.beside.other_named;
      a = h.beside.a;
      stands = h.beside.stands;
      b = h.beside.b;
      other_stands = h.beside.other_stands;
      one_owner = h.beside.one_owner;
      twins = twins;
    } in
    let own : IsReference types h.beside.a.owner.0 → ⊥ = λ reference. none (with_ (inr (reference, one_overload h.beside.a h.beside.b h.agree))) in
    none (with_ (inl (own, h.agree)))

-- two members that both share a name with a third either may share it or are one overload
sorts_told : (a b : MemberRow) (s : Sort) → sort_of a.kind ≡ s → sort_of b.kind ≡ s → told_by s (types_of a) ≡ told_by s (types_of b) → known_as a ≡ known_as b → AreOneOverload a b
sorts_told a b s x y told name = record {
  name = name;
  sort = x ∙ sym y;
  told = ap (λ (k : Sort). told_by k (types_of a)) x ∙ told ∙ sym (ap (λ (k : Sort). told_by k (types_of b)) y);
}

overloads_not : (a b f : MemberRow) → AreOverloads a f → AreOverloads b f → known_as a ≡ known_as b → (MayShareName a b → ⊥) → (AreOneOverload a b → ⊥) → ⊥
overloads_not a b f x y name clash none =
    let sort : sort_of a.kind ≡ sort_of b.kind = x.one_sort ∙ sym y.one_sort in
    clash (inr (inr (record {
      one_sort = sort;
      overloaded = x.overloaded;
      apart = λ types. none (record { name = name; sort = sort; told = one_told a b sort types });
    })))

third_not : (a b f : MemberRow) → MayShareName a f → MayShareName b f → known_as a ≡ known_as b → (MayShareName a b → ⊥) → (AreOneOverload a b → ⊥) → ⊥
third_not a b f (inl p) (inl q) name clash none = none (sorts_told a b Getter p.gets q.gets refl name)
third_not a b f (inl p) (inr (inl q)) name clash none = get_set (sort_of f.kind) q.gets p.sets
third_not a b f (inl p) (inr (inr o)) name clash none = set_overloaded (sort_of f.kind) p.sets (subst (λ (s : Sort). IsOverloaded s) o.one_sort o.overloaded)
third_not a b f (inr (inl p)) (inl q) name clash none = get_set (sort_of f.kind) p.gets q.sets
third_not a b f (inr (inl p)) (inr (inl q)) name clash none = none (sorts_told a b Setter p.sets q.sets refl name)
third_not a b f (inr (inl p)) (inr (inr o)) name clash none = get_overloaded (sort_of f.kind) p.gets (subst (λ (s : Sort). IsOverloaded s) o.one_sort o.overloaded)
third_not a b f (inr (inr o)) (inl q) name clash none = set_overloaded (sort_of f.kind) q.sets (subst (λ (s : Sort). IsOverloaded s) o.one_sort o.overloaded)
third_not a b f (inr (inr o)) (inr (inl q)) name clash none = get_overloaded (sort_of f.kind) q.gets (subst (λ (s : Sort). IsOverloaded s) o.one_sort o.overloaded)
third_not a b f (inr (inr o)) (inr (inr p)) name clash none = overloads_not a b f o p name clash none

-- members that go by one name
goes_back : (types : List TypeRow) (members : List MemberRow) (flags : List Bool) (m n : ℕ) → GoesWith types members flags m n → GoesWith types members flags n m
goes_back types members flags m n g = record {
  named = g.other_named;
  other_named = g.named;
  a = g.b;
  stands = g.other_stands;
  b = g.a;
  other_stands = g.stands;
  one_owner = sym g.one_owner;
  reference = subst (λ (o : TypeId). IsReference types o.0) g.one_owner g.reference;
  one_name = sym g.one_name;
}

goes_on : (types : List TypeRow) (members : List MemberRow) (flags : List Bool) (m n k : ℕ) → GoesWith types members flags m n → GoesWith types members flags n k → GoesWith types members flags m k
goes_on types members flags m n k g h =
    let same = one_item members n g.b h.a g.other_stands h.stands in
    record {
      named = g.named;
      other_named = h.other_named;
      a = g.a;
      stands = g.stands;
      b = h.b;
      other_stands = h.other_stands;
      one_owner = g.one_owner ∙ ap (λ (r : MemberRow). r.owner) same ∙ h.one_owner;
      reference = g.reference;
      one_name = g.one_name ∙ ap known_as same ∙ h.one_name;
    }

first_of_other : (types : List TypeRow) (members : List MemberRow) (flags : List Bool) (m n f : ℕ) → GoesWith types members flags n m → IsLeast (GoesWith types members flags m) f → IsLeast (GoesWith types members flags n) f
first_of_other types members flags m n f back first = record {
  holds = goes_on types members flags n m f back first.holds;
  least = λ k lt goes. first.least k lt (goes_on types members flags m n k (goes_back types members flags n m back) goes);
}

-- a clash of a member with the first of its name would have been found
clash_at : (types : List TypeRow) (members : List MemberRow) (flags : List Bool) (m f : ℕ) (a b : MemberRow) → (IsFirstClash types members flags f → ⊥) → IsLeast (GoesWith types members flags m) f → f ≢ m → slice_get members m ≡ Some a → slice_get members f ≡ Some b → (MayShareName a b → ⊥) → ⊥
clash_at types members flags m f a b none first apart stands other_stands clash =
    let here = one_item members m first.holds.a a first.holds.stands stands in
    let there = one_item members f first.holds.b b first.holds.other_stands other_stands in
    none (
      m,
      record {
        first = first;
        apart = apart;
        clash = λ may. clash (subst (λ (r : MemberRow). MayShareName a r) there (subst (λ (r : MemberRow). MayShareName r first.holds.b) here may));
      },
    )

clashing_at : (types : List TypeRow) (members : List MemberRow) (flags : List Bool) (m n f : ℕ) → m ≢ n → (g : GoesWith types members flags m n) → (MayShareName g.a g.b → ⊥) → IsLeast (GoesWith types members flags m) f → (HasTwin types members flags m → ⊥) → (IsFirstClash types members flags f → ⊥) → ⊥
clashing_at types members flags m n f apart g clash first no_twin no_odd =
    let back = goes_back types members flags m n g in
    let other = first_of_other types members flags m n f back first in
    let no_one : AreOneOverload g.a g.b → ⊥ = λ one. no_twin (record {
      named = g.named;
      n = n;
      apart = apart;
      other_named = g.other_named;
      a = g.a;
      stands = g.stands;
      b = g.b;
      other_stands = g.other_stands;
      one_owner = g.one_owner;
      twins = inr (g.reference, one);
    }) in
    elim (cases_order f m) [
      | inl e ↦ clash_at types members flags n f g.b g.a no_odd other (λ k. apart (sym e ∙ k)) g.other_stands (ap (λ (i : ℕ). slice_get members i) e ∙ g.stands) (λ may. clash (swap_share g.b g.a may))
      | inr w ↦
          let not_m : f ≢ m = elim w [ inl lt ↦ λ e. omega (arith, lt, e) | inr lt ↦ λ e. omega (arith, lt, e) ] in
          elim (cases_order f n) [
            | inl e ↦ clash_at types members flags m f g.a g.b no_odd first not_m g.stands (ap (λ (i : ℕ). slice_get members i) e ∙ g.other_stands) clash
            | inr v ↦
                let not_n : f ≢ n = elim v [ inl lt ↦ λ e. omega (arith, lt, e) | inr lt ↦ λ e. omega (arith, lt, e) ] in
                clash_at types members flags m f g.a first.holds.b no_odd first not_m g.stands first.holds.other_stands (λ may.
                clash_at types members flags n f g.b first.holds.b no_odd other not_n g.other_stands first.holds.other_stands (λ other_may.
                third_not g.a g.b first.holds.b may other_may g.one_name clash no_one))
          ]
    ]

clashing_not : (types : List TypeRow) (members : List MemberRow) (explicit : List (MemberId × MemberId)) (flags : List Bool) (m : ℕ) → AreMarks types members explicit flags → IsClashing types members explicit m → ((k : ℕ) → k ≤ m → IsFound types members flags k → ⊥) → ⊥
clashing_not types members explicit flags m are h none =
    let g : GoesWith types members flags m h.n = record {
      named = down_at types members explicit flags m h.beside.a are h.beside.stands h.beside.named;
      other_named = down_at types members explicit flags h.n h.beside.b are h.beside.other_stands h.beside.other_named;
      a = h.beside.a;
      stands = h.beside.stands;
      b = h.beside.b;
      other_stands = h.beside.other_stands;
      one_owner = h.beside.one_owner;
      reference = h.reference;
      one_name = h.one_name;
    } in
    let itself = goes_on types members flags m h.n m g (goes_back types members flags m h.n g) in
    not_none_least (GoesWith types members flags m) m itself (λ f first.
    elim (cases_lt m f) [
      | inl lt ↦ first.least m lt itself
      | inr le ↦ clashing_at types members flags m h.n f h.beside.apart g h.not_shared first (λ twin. none m (omega arith) (inl (inl twin))) (λ odd. none f le (inl (inr odd)))
    ])

flag_at : (types : List TypeRow) (members : List MemberRow) (explicit : List (MemberId × MemberId)) (flags : List Bool) (m : ℕ) (row : MemberRow) → AreMarks types members explicit flags → slice_get members m ≡ Some row → (b : Bool) × (slice_get flags m ≡ Some b)
flag_at types members explicit flags m row are stands =
    let lt = slice_get_within members m row stands in
    let long = are.long in
    item_at flags m (omega (arith, lt, long))

duplicate_not : (types : List TypeRow) (members : List MemberRow) (explicit : List (MemberId × MemberId)) (flags : List Bool) (m : ℕ) → AreMarks types members explicit flags → IsDuplicate types members explicit m → ((k : ℕ) → k ≤ m → IsFound types members flags k → ⊥) → ⊥
duplicate_not types members explicit flags m are duplicate none = elim duplicate [
  | inl agreeing ↦ agreeing_not types members explicit flags m are agreeing (λ twin. none m (omega arith) (inl (inl twin)))
  | inr others ↦ elim others [
    | inl clashing ↦ clashing_not types members explicit flags m are clashing none
    | inr alone ↦ elim alone [
      | inl nested ↦ none m (omega arith) (inr (record {
        row = nested.row;
        stands = nested.stands;
        is_nameless = false;
        flag = down_at types members explicit flags m nested.row are nested.stands nested.named;
        lone = inr (refl, (nested.reference, (nested.inner, nested.nested, nested.one_name)));
      }))
      | inr misplaced ↦
          let flag = flag_at types members explicit flags m misplaced.row are misplaced.stands in
          none m (omega arith) (inr (record { row = misplaced.row; stands = misplaced.stands; is_nameless = flag.0; flag = flag.1; lone = inl misplaced.is }))
    ]
  ]
]

pub least_duplicate_is : (types : List TypeRow) (members : List MemberRow) (explicit : List (MemberId × MemberId)) (flags : List Bool) (found : Option ℕ) → AreMarks types members explicit flags → IsLeastOf (IsFound types members flags) found → IsLeastOf (IsDuplicate types members explicit) found
least_duplicate_is types members explicit flags found are =
    least_of_sooner (IsFound types members flags) (IsDuplicate types members explicit) found
    (λ m. found_is types members explicit flags m are)
    (λ m. duplicate_not types members explicit flags m are)

pub duplicate_within : (types : List TypeRow) (members : List MemberRow) (explicit : List (MemberId × MemberId)) (m : ℕ) → IsDuplicate types members explicit m → m < length members
duplicate_within types members explicit m duplicate = elim duplicate [
  | inl agreeing ↦ slice_get_within members m agreeing.beside.a agreeing.beside.stands
  | inr others ↦ elim others [
    | inl clashing ↦ slice_get_within members m clashing.beside.a clashing.beside.stands
    | inr alone ↦ elim alone [
      | inl nested ↦ slice_get_within members m nested.row nested.stands
      | inr misplaced ↦ slice_get_within members m misplaced.row misplaced.stands
    ]
  ]
]

-- a row that is a duplicate by itself, with the flag as it was read
pub lone_at : (types : List TypeRow) (members : List MemberRow) (flags : List Bool) (m : ℕ) (row : MemberRow) (d : Bool) → slice_get members m ≡ Some row → IsLone types members flags m → IsLoneRow types (get_or flags m d) row
lone_at types members flags m row d stands lone =
    let same = one_item members m lone.row row lone.stands stands in
    let flag = get_or_from_slice_get flags m lone.is_nameless d lone.flag in
    subst (λ (b : Bool). IsLoneRow types b row) (sym flag) (subst (λ (r : MemberRow). IsLoneRow types lone.is_nameless r) same lone.lone)
