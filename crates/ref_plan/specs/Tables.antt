-- A table from names to references, next to the names by number.
use Rattle.std.specs.Prelude.{◌≡◌, ℕ, [], List, Option, None, Some, cond, nat_eq}
use Rattle.std.specs.Cmp.Lexicographic.{pointwise}
use Rattle.std.specs.Map.{lookup}
use Rattle.ref_forms.specs.Names.{NamesSeen}
use Rattle.ref_log.specs.declared.notices.Who.{Who}
use Rattle.ref_plan.specs.declared.planning.names.NameText.{NameText}
use Rattle.ref_plan.specs.declared.planning.names.NameText.TheVariants.{Long, Short}
use Rattle.ref_plan.specs.Named.{IsNamed}

-- the bytes of a name, wherever they lie
abbrev pub bytes_of : NameText → List ℕ
bytes_of (Short text) = text
bytes_of (Long text) = text

abbrev pub Table : Type 0
Table = List (List ℕ × Who)

abbrev pub found : Table → List ℕ → Option Who
found table name = lookup (pointwise nat_eq name) table

-- The table has these names and no others.
pub record Knows (table : Table) (names : NamesSeen) : Type 0 where
  pub has : (name : List ℕ) (who : Who) → IsNamed names who name → found table name ≡ Some who
  pub tells : (name : List ℕ) (who : Who) → found table name ≡ Some who → IsNamed names who name

-- The table has one name more, which it hadn't before.
pub record Adds (old : Table) (name : List ℕ) (who : Who) (new : Table) : Type 0 where
  pub absent : found old name ≡ None
  pub added : (q : List ℕ) → found new q ≡ cond (pointwise nat_eq name q) (Some who) (found old q)

-- names of refs alone, and of refs and atoms
abbrev pub refs_alone : List (List ℕ) → NamesSeen
refs_alone refs = record { refs = refs; atoms = []; agents = [] }

abbrev pub refs_and_atoms : List (List ℕ) → List (List ℕ) → NamesSeen
refs_and_atoms refs atoms = record { refs = refs; atoms = atoms; agents = [] }
