-- What a store of atoms shows.
use Rattle.std.specs.Prelude.{ℕ, ◌∷◌, ◌++◌, [], List, Option, slice_set}
use Rattle.ref_value.specs.Edn.{Edn}
use Rattle.ref_fun.specs.declared.rules.Rule.{Rule}
use Rattle.ref_log.specs.Guards.{with_guard}
use Rattle.ref_log.specs.declared.guards.Guard.{Guard}

-- the values of the atoms by number, and the rule and the watches of each
pub record AtomsSeen : Type 0 where
  pub values : List Edn
  pub guards : List Guard

-- with an atom more, whose number is the next one
abbrev pub with_atom : AtomsSeen → Edn → Option Rule → AtomsSeen
with_atom atoms start rule = record { values = atoms.values ++ start ∷ []; guards = with_guard atoms.guards rule }

-- with another value of an atom
abbrev pub with_value : AtomsSeen → ℕ → Edn → AtomsSeen
with_value atoms a v = record atoms { values = slice_set atoms.values a v }

-- with other rules or watches
abbrev pub with_guards : AtomsSeen → List Guard → AtomsSeen
with_guards atoms guards = record atoms { guards = guards }
