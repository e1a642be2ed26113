-- The watches of a reference, and their notices of a change.
use Rattle.std.specs.Prelude.{◌≡◌, ◌++◌, [], ◌∷◌, Bool, false, not, if◌then◌else◌, List, map}
use Rattle.std.specs.List.{filter, list_any}
use Rattle.std.specs.Ordering.{eq_by_cmp}
use Rattle.ref_value.specs.Edn.{Edn}
use Rattle.ref_value.specs.Order.{edn_cmp}
use Rattle.ref_log.specs.declared.notices.Notice.{Notice}
use Rattle.ref_log.specs.declared.notices.Who.{Who}

-- A reference's watches are their keys, in the order of adding.
abbrev pub is_key : Edn → Edn → Bool
is_key key k = eq_by_cmp edn_cmp k key

abbrev pub has_key : List Edn → Edn → Bool
has_key keys key = list_any (is_key key) keys

-- No two of them are equal.
abbrev pub AreDistinct : List Edn → Type 0
AreDistinct [] = Unit {0}
AreDistinct (k ∷ ks) = (has_key ks k ≡ false) × AreDistinct ks

-- with one more at the end; one that is there already stays where it is
abbrev pub with_key : List Edn → Edn → List Edn
with_key keys key = if has_key keys key then keys else keys ++ key ∷ []

-- the others, where a watch is taken away
abbrev pub without_key : List Edn → Edn → List Edn
without_key keys key = filter (λ k. not (is_key key k)) keys

-- A notice for each watch, in the order of adding, also where the value is the same as before.
abbrev pub notices_of : Who → List Edn → Edn → Edn → List Notice
notices_of who keys before after = map (λ key. record { who = who; key = key; before = before; after = after }) keys
