-- Marks of five roots.
use Rattle.std.proofs.Common.{◌≡◌, ◌⊎◌, ℕ, ◌<◌, Bool, true, false, Some, None, List, length, replicate, refl, sym, ◌∙◌, subst, inl, inr, arith}
use Rattle.std.specs.Prelude.{codes}
use Rattle.std.specs.Borrow.{Bor}
use Rattle.std.specs.List.{slice_get}
use Rattle.class_rows.specs.declared.row.TypeRow.{TypeRow}
use Rattle.class_rows.specs.Types.{InBaseChain}
use Rattle.class_rows.specs.Names.{NamesAreUnique}
use Rattle.class_rows.specs.Core.{IsSystem}
use Rattle.class_bases.specs.System.{at_name, HasSystem}
use Rattle.class_bases.proofs.Systems.{one_system}
use Rattle.class_members.specs.Fieldless.{Marks, AreFieldless}
use Rattle.class_members.proofs.Write.{none_up}

pub marks_of_system : (types : List TypeRow) (entries : List (Bor (List ℕ) × ℕ)) (name : List ℕ) (t : ℕ) (old new : List Bool) → NamesAreUnique types → HasSystem types entries → at_name entries name ≡ Some t → Marks types (λ s. s ≡ t) old new → Marks types (IsSystem types name) old new
marks_of_system types entries name t old new unique has at marks = record {
  long = marks.long;
  sound = λ u h. elim (marks.sound u h) [
    | inl was ↦ inl was
    | inr r ↦ inr (r.0, subst (λ (n : ℕ). IsSystem types name n) (sym r.1) (has.sound name t at), r.2)
  ];
  kept = marks.kept;
  added = λ s u is r lt. marks.added s u (one_system types name s t unique is (has.sound name t at)) r lt;
}

pub marks_of_none : (types : List TypeRow) (entries : List (Bor (List ℕ) × ℕ)) (name : List ℕ) (old : List Bool) → HasSystem types entries → at_name entries name ≡ None → Marks types (IsSystem types name) old old
marks_of_none types entries name old has at = record {
  long = refl;
  sound = λ u h. inl h;
  kept = λ u h. h;
  added = λ s u is r lt. let some = has.complete name s is in let both : None ≡ Some some.0 = sym at ∙ some.1 in absurd cc;
}

-- marks of one set of roots after those of another
record AreMarked (types : List TypeRow) (Root : ℕ → Type 0) (flags : List Bool) : Type 0 where
  long : length flags ≡ length types
  sound : (t : ℕ) → slice_get flags t ≡ Some true → (s : ℕ) × InBaseChain types s t × Root s
  complete : (s t : ℕ) → Root s → InBaseChain types s t → t < length types → slice_get flags t ≡ Some true

marked_none : (types : List TypeRow) (flags : List Bool) → flags ≡ replicate (length types) false → length flags ≡ length types → AreMarked types (λ s. ⊥) flags
marked_none types flags none long = record {
  long = long;
  sound = λ t up. absurd (none_up (length types) t (subst (λ (fs : List Bool). slice_get fs t ≡ Some true) none up));
  complete = λ s t never r lt. absurd never;
}

marked_more : (types : List TypeRow) (Root More : ℕ → Type 0) (old new : List Bool) → AreMarked types Root old → Marks types More old new → AreMarked types (λ s. Root s ⊎ More s) new
marked_more types Root More old new so marks = record {
  long = marks.long ∙ so.long;
  sound = λ t up. elim (marks.sound t up) [
    | inl was ↦ let r = so.sound t was in (r.0, r.1, inl r.2)
    | inr r ↦ (r.0, r.2, inr r.1)
  ];
  complete = λ s t root r lt. elim root [
    | inl old_root ↦ marks.kept t (so.complete s t old_root r lt)
    | inr more ↦ let long = so.long in marks.added s t more r (omega (arith, long, lt))
  ];
}

pub all_marked : (types : List TypeRow) (f0 f1 f2 f3 f4 f5 : List Bool) → f0 ≡ replicate (length types) false → length f0 ≡ length types → Marks types (IsSystem types (codes "Object")) f0 f1 → Marks types (IsSystem types (codes "ValueType")) f1 f2 → Marks types (IsSystem types (codes "Enum")) f2 f3 → Marks types (IsSystem types (codes "Array")) f3 f4 → Marks types (IsSystem types (codes "String")) f4 f5 → AreFieldless types f5
all_marked types f0 f1 f2 f3 f4 f5 none long m1 m2 m3 m4 m5 =
    let a0 = marked_none types f0 none long in
    let a1 = marked_more types _ (IsSystem types (codes "Object")) f0 f1 a0 m1 in
    let a2 = marked_more types _ (IsSystem types (codes "ValueType")) f1 f2 a1 m2 in
    let a3 = marked_more types _ (IsSystem types (codes "Enum")) f2 f3 a2 m3 in
    let a4 = marked_more types _ (IsSystem types (codes "Array")) f3 f4 a3 m4 in
    let a5 = marked_more types _ (IsSystem types (codes "String")) f4 f5 a4 m5 in
    record {
      long = a5.long;
      sound = λ t up. let r = a5.sound t up in (
        r.0,
        r.1,
        elim r.2 [
          | inr string ↦ inr (inr (inr (inr string)))
          | inl four ↦ elim four [
            | inr array ↦ inr (inr (inr (inl array)))
            | inl three ↦ elim three [
              | inr enums ↦ inr (inr (inl enums))
              | inl two ↦ elim two [
                | inr value ↦ inr (inl value)
                | inl one ↦ elim one [
                  | inr object ↦ inl object
                  | inl never ↦ absurd never
                ]
              ]
            ]
          ]
        ],
      );
      complete = λ t lt below. a5.complete below.0 t (elim below.2 [
        | inl object ↦ inl (inl (inl (inl (inr object))))
        | inr four ↦ elim four [
          | inl value ↦ inl (inl (inl (inr value)))
          | inr three ↦ elim three [
            | inl enums ↦ inl (inl (inr enums))
            | inr two ↦ elim two [
              | inl array ↦ inl (inr array)
              | inr string ↦ inr string
            ]
          ]
        ]
      ]) below.1 lt;
    }
