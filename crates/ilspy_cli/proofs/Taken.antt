-- How far the files of a command are read.
use Rattle.std.proofs.Common.{◌≡◌, ◌<◌, ◌≤◌, ◌+◌, ℕ, zero, suc, List, [], ◌∷◌, ◌++◌, length, map, take, get_or, Option, None, Some, Err, refl, sym, ap, ap₂, ◌∙◌, subst, arith, append_assoc}
use Rattle.dc_outside.specs.Outside.{CountsTake, Given, given_after, HasAtLeast, HasRisen, IsFile, Takes}
use Rattle.dc_base.specs.declared.failure.Or.{Or}
use Rattle.dc_base.specs.declared.failure.Or.TheVariants.{Fault}
use Rattle.dc_outside.specs.declared.shelf.TakeFault.{TakeFault}
use Rattle.dc_outside.specs.declared.shelf.TakeFault.TheVariants.{Longer, Failed}
use Rattle.ilspy_cli.specs.Files.{Files, Wanted, AreRead, HasGiven, HasNotFailed, Shelved, StopsAt, given_for, shelved}
use Rattle.ilspy_cli.proofs.Lists.{map_append, map_more}

-- these files were given and nothing else, no read failed, and the shelf still tells the same
pub record SoFar (shelf : Shelved) (now : Files) (all : List Wanted) (contents : List (List ℕ)) : Type 0 where
  pub same : now ≡ shelf.files
  pub unfailed : HasNotFailed shelf
  pub read : AreRead shelf.files all contents
  pub given : HasGiven shelf (given_for all contents)

-- what a call says that found the file too long
pub longer_takes : (files : Files) (name : List ℕ) (limit n : ℕ) (o : Or TakeFault) → o ≡ Fault (Longer n) → Takes files name limit (Err o)
    → (limit < n) × HasAtLeast files name n
longer_takes files name limit n o e h = subst (λ (o : Or TakeFault). Takes files name limit (Err o)) e h

pub longer_counts : (name : List ℕ) (before now : ℕ) (last_before last_now : Option (List ℕ)) (n : ℕ) (o : Or TakeFault) → o ≡ Fault (Longer n)
    → CountsTake name before now last_before last_now (Err o) → (now ≡ before) × (last_now ≡ last_before)
longer_counts name before now last_before last_now n o e h = subst (λ (o : Or TakeFault). CountsTake name before now last_before last_now (Err o)) e h

pub longer_gives : (before : List Given) (name : List ℕ) (now : List Given) (n : ℕ) (o : Or TakeFault) → o ≡ Fault (Longer n)
    → now ≡ given_after before name (Err o) → now ≡ before ++ (name, None) ∷ []
longer_gives before name now n o e h = h ∙ ap (λ (o : Or TakeFault). given_after before name (Err o)) e

-- what a call says that failed
pub failed_counts : (name : List ℕ) (before now : ℕ) (last_before last_now : Option (List ℕ)) (o : Or TakeFault) → o ≡ Fault Failed
    → CountsTake name before now last_before last_now (Err o) → HasRisen before now × (last_now ≡ Some name)
failed_counts name before now last_before last_now o e h = subst (λ (o : Or TakeFault). CountsTake name before now last_before last_now (Err o)) e h

pub failed_gives : (before : List Given) (name : List ℕ) (now : List Given) (o : Or TakeFault) → o ≡ Fault Failed → now ≡ given_after before name (Err o) → now ≡ before
failed_gives before name now o e h = h ∙ ap (λ (o : Or TakeFault). given_after before name (Err o)) e

-- one more file was given
given_more : (files : Files) (all : List Wanted) (contents : List (List ℕ)) (file : Wanted) (bytes : List ℕ) → AreRead files all contents
    → given_for (all ++ file ∷ []) (contents ++ bytes ∷ []) ≡ given_for all contents ++ (file.name, Some bytes) ∷ []
given_more files [] [] file bytes read = refl
given_more files [] (c ∷ contents) file bytes read = absurd read
given_more files (f ∷ all) [] file bytes read = absurd read
given_more files (f ∷ all) (c ∷ contents) file bytes read = ap (λ gs. (f.name, Some c) ∷ gs) (given_more files all contents file bytes read.2)

-- one more file was read
read_more : (files : Files) (all : List Wanted) (contents : List (List ℕ)) (file : Wanted) (bytes : List ℕ) → AreRead files all contents
    → IsFile files file.name bytes → length bytes ≤ file.limit → AreRead files (all ++ file ∷ []) (contents ++ bytes ∷ [])
read_more files [] [] file bytes read is short = (is, short, tt)
read_more files [] (c ∷ contents) file bytes read is short = absurd read
read_more files (f ∷ all) [] file bytes read is short = absurd read
read_more files (f ∷ all) (c ∷ contents) file bytes read is short = (read.0, read.1, read_more files all contents file bytes read.2 is short)

-- the list is what stands before the item, the item, and the rest
split : {X Y : Type 0} (f : X → Y) (xs : List X) (i : ℕ) (d : X) → i < length xs → (behind : List Y) × (map f xs ≡ map f (take i xs) ++ f (get_or xs i d) ∷ behind)
split f [] i d lt = absurd (omega (arith, lt))
split f (x ∷ xs) zero d lt = (map f xs, refl)
split f (x ∷ xs) (suc i) d lt = let s = split f xs i d (omega (arith, lt)) in (s.0, ap (λ zs. f x ∷ zs) s.1)

module _ {X V : Type 0} (w : X → Wanted) (g : V → List ℕ) (xs : List X) (i : ℕ) (item : X) (here : item ≡ get_or xs i item) (inside : i < length xs) where
  -- the shelf took one more file
  pub taken_more : (files mid now : Files) (before at count : ℕ) (last_before last_mid last_now : Option (List ℕ)) (given_before given_mid given_now : List Given) (vs : List V) (v : V)
      → SoFar (shelved files before at last_before last_mid given_before given_mid) mid (map w (take i xs)) (map g vs)
      → now ≡ mid → count ≡ at → last_now ≡ last_mid → given_now ≡ given_mid ++ ((w item).name, Some (g v)) ∷ [] → IsFile mid (w item).name (g v) → length (g v) ≤ (w item).limit
      → SoFar (shelved files before count last_before last_now given_before given_now) now (map w (take (i + 1) xs)) (map g (vs ++ v ∷ []))
  taken_more files mid now before at count last_before last_mid last_now given_before given_mid given_now vs v so same still kept gave is short =
      let all : map w (take (i + 1) xs) ≡ map w (take i xs) ++ w item ∷ [] =
      map_more w xs i item inside ∙ ap (λ x. map w (take i xs) ++ w x ∷ []) (sym here) in
      let contents : map g (vs ++ v ∷ []) ≡ map g vs ++ g v ∷ [] = map_append g vs (v ∷ []) in
      let entry : List Given = ((w item).name, Some (g v)) ∷ [] in
      let more : given_for (map w (take (i + 1) xs)) (map g (vs ++ v ∷ [])) ≡ given_for (map w (take i xs)) (map g vs) ++ entry =
      ap₂ given_for all contents ∙ given_more files (map w (take i xs)) (map g vs) (w item) (g v) so.read in
      record {
        same = same ∙ so.same;
        unfailed = record { count = still ∙ so.unfailed.count; last = kept ∙ so.unfailed.last };
        read = subst (λ a. AreRead files a (map g (vs ++ v ∷ []))) (sym all)
            (subst (λ c. AreRead files (map w (take i xs) ++ w item ∷ []) c) (sym contents)
            (read_more files (map w (take i xs)) (map g vs) (w item) (g v) so.read (subst (λ f. IsFile f (w item).name (g v)) so.same is) short));
        given = gave ∙ ap (λ gs. gs ++ entry) so.given ∙ append_assoc given_before (given_for (map w (take i xs)) (map g vs)) entry
            ∙ ap (λ gs. given_before ++ gs) (sym more);
      }

  -- the files before this one were given, and of this one what is said
  pub stops_at : (files mid : Files) (before at now : ℕ) (last_before last_mid last_now : Option (List ℕ)) (given_before given_mid given_now answer : List Given) (vs : List V)
      → SoFar (shelved files before at last_before last_mid given_before given_mid) mid (map w (take i xs)) (map g vs) → given_now ≡ given_mid ++ answer
      → StopsAt (shelved files before now last_before last_now given_before given_now) (map w xs) (w item) answer
  stops_at files mid before at now last_before last_mid last_now given_before given_mid given_now answer vs so gave =
      let s = split w xs i item inside in
      record {
        next = record {
          before = map w (take i xs);
          behind = s.0;
          among = s.1 ∙ ap (λ x. map w (take i xs) ++ w x ∷ s.0) (sym here);
          contents = map g vs;
          read = so.read;
        };
        given = gave ∙ ap (λ gs. gs ++ answer) so.given ∙ append_assoc given_before (given_for (map w (take i xs)) (map g vs)) answer;
      }
