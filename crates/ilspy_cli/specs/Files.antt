-- The files of a command, and how a shelf gives them.
use Rattle.std.specs.Prelude.{◌≡◌, ◌<◌, ◌≤◌, ⊤, ℕ, List, [], ◌∷◌, ◌++◌, length, Option, None, Some}
use Rattle.dc_outside.specs.Outside.{Given, HasAtLeast, HasRisen, IsFile}
use Rattle.ilspy_cli.specs.declared.words.Request.{Request}
use Rattle.ilspy_cli.specs.declared.words.Request.TheVariants.{Body, Show}

-- a file by its name, and the most bytes that it may have
pub record Wanted : Type 0 where
  pub name : List ℕ
  pub limit : ℕ

abbrev pub wanted : List ℕ → ℕ → Wanted
wanted name limit = record { name = name; limit = limit }

-- the files of a request, in the order of its words
abbrev pub files_of : Request → List Wanted
files_of (Body file) = wanted file 64 ∷ []
files_of (Show assembly) = wanted assembly 16777216 ∷ []

-- what a shelf tells of its files: their bytes by their names, or nothing
abbrev pub Files : Type 0
Files = Option (List ℕ → Option (List ℕ))

-- a shelf over a run: its files, and its count of faults, its last failed name and all that it gave, before the run and now
pub record Shelved : Type 0 where
  pub files : Files
  pub before : ℕ
  pub now : ℕ
  pub last_before : Option (List ℕ)
  pub last_now : Option (List ℕ)
  pub given_before : List Given
  pub given_now : List Given

abbrev pub shelved : Files → ℕ → ℕ → Option (List ℕ) → Option (List ℕ) → List Given → List Given → Shelved
shelved files before now last_before last_now given_before given_now = record {
  files = files;
  before = before;
  now = now;
  last_before = last_before;
  last_now = last_now;
  given_before = given_before;
  given_now = given_now;
}

-- no read failed
pub record HasNotFailed (shelf : Shelved) : Type 0 where
  pub count : shelf.now ≡ shelf.before
  pub last : shelf.last_now ≡ shelf.last_before

-- the read of the file of this name failed, which was the last to fail
pub record HasFailedAt (shelf : Shelved) (name : List ℕ) : Type 0 where
  pub risen : HasRisen shelf.before shelf.now
  pub is_last : shelf.last_now ≡ Some name

-- the shelf gave this in the run, and nothing else
abbrev pub HasGiven : Shelved → List Given → Type 0
HasGiven shelf given = shelf.given_now ≡ shelf.given_before ++ given

-- what a shelf gives that gives each of these files with these bytes
abbrev pub given_for : List Wanted → List (List ℕ) → List Given
given_for [] contents = []
given_for (file ∷ more) [] = []
given_for (file ∷ more) (bytes ∷ contents) = (file.name, Some bytes) ∷ given_for more contents

-- these are the bytes of the wanted files, none of which is longer than its limit
abbrev pub AreRead : Files → List Wanted → List (List ℕ) → Type 0
AreRead files [] [] = ⊤
AreRead files [] (bytes ∷ contents) = ⊥
AreRead files (file ∷ more) [] = ⊥
AreRead files (file ∷ more) (bytes ∷ contents) =
    IsFile files file.name bytes × (length bytes ≤ file.limit) × AreRead files more contents

-- so many files, none of them longer than its limit
abbrev pub AreWithin : List Wanted → List (List ℕ) → Type 0
AreWithin = AreRead None

-- the files before this one were read
pub record IsNext (files : Files) (all : List Wanted) (file : Wanted) : Type 0 where
  pub before : List Wanted
  pub behind : List Wanted
  pub among : all ≡ before ++ file ∷ behind
  pub contents : List (List ℕ)
  pub read : AreRead files before contents

-- the shelf gave the files before this one in their order, and then what is said of this one, and nothing else
pub record StopsAt (shelf : Shelved) (all : List Wanted) (file : Wanted) (answer : List Given) : Type 0 where
  pub next : IsNext shelf.files all file
  pub given : HasGiven shelf (given_for next.before next.contents ++ answer)

-- the shelf found the file longer than its limit
abbrev pub is_longer : Wanted → List Given
is_longer file = (file.name, None) ∷ []

-- this file is longer than its limit
pub record IsTooLong (files : Files) (file : Wanted) : Type 0 where
  pub bytes : ℕ
  pub has : HasAtLeast files file.name bytes
  pub long : file.limit < bytes
