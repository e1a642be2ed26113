-- Which reference a name names. Refs, atoms and agents share one name space.
use Rattle.std.specs.Prelude.{◌≡◌, ℕ, suc, if◌then◌else◌, List, [], ◌∷◌, Option, None, Some, option_and_then, option_map, slice_get}
use Rattle.ref_value.specs.Edn.{Edn, symbol_of}
use Rattle.ref_value.specs.Names.{bytes_eq}
use Rattle.ref_forms.specs.Names.{NamesSeen}
use Rattle.ref_log.specs.declared.notices.Who.{Who}
use Rattle.ref_log.specs.declared.notices.Who.TheVariants.{Ref, Atom, Agent}

-- the name of a reference, if it is declared
abbrev pub name_of : NamesSeen → Who → Option (List ℕ)
name_of names (Ref r) = slice_get names.refs r
name_of names (Atom a) = slice_get names.atoms a
name_of names (Agent g) = slice_get names.agents g

-- The name is that of this reference.
abbrev pub IsNamed : NamesSeen → Who → List ℕ → Type 0
IsNamed names who name = name_of names who ≡ Some name

-- No two references have one name.
abbrev pub AreApart : NamesSeen → Type 0
AreApart names = (a b : Who) (name : List ℕ) → IsNamed names a name → IsNamed names b name → a ≡ b

-- the place of a name in a list
abbrev pub place_of : List ℕ → List (List ℕ) → Option ℕ
place_of name [] = None
place_of name (other ∷ names) = if bytes_eq other name then Some 0 else option_map suc (place_of name names)

-- the first that is there
abbrev pub or_else : {A : Type 0} → Option A → Option A → Option A
or_else (Some x) other = Some x
or_else None other = other

-- the reference of a name
abbrev pub who_named : NamesSeen → List ℕ → Option Who
who_named names name =
    or_else (option_map Ref (place_of name names.refs)) (
    or_else (option_map Atom (place_of name names.atoms)) (
    option_map Agent (place_of name names.agents)))

-- the reference that a form names: a symbol
abbrev pub who_of : NamesSeen → Edn → Option Who
who_of names x = option_and_then (who_named names) (symbol_of x)
