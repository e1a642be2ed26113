-- What a history and a beginning of it own: no word and no invariant, only the right to a value that grows.
use Rattle.std.specs.Prelude.{ℕ, List, map}
use base.Fraction.{full_share}
use base.Stored.{Gv, Coded}
use base.Growing.{Order, prefixes, latest, at_least}
use base.Fml.{Fml}

-- The log is stored as the ghost values of its entries, in an order that names no type parameter
abbrev pub itself : Coded Gv
itself = record { code = λ g. g; inj = λ x y p. p }

abbrev pub logs : Order (List Gv)
logs = prefixes itself

module _ {E : Type 0} (c : E → Gv) where
  -- the whole of a history, which only its owner can change
  abbrev pub whole : ℕ → List E → Fml
  whole η log = latest logs full_share η (map c log)

  -- that a history has come so far
  abbrev pub reached : ℕ → List E → Fml
  reached η log = at_least logs η (map c log)
