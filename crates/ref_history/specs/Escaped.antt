-- Text in a page: what could begin or end markup, or a value of an attribute, is written as a reference to a character.
use Rattle.std.specs.Prelude.{ℕ, ◌==◌, ◌||◌, not, Bool, if◌then◌else◌, List, [], ◌∷◌, codes}
use Rattle.std.specs.List.{flat_map, list_all}

abbrev pub escaped_byte : ℕ → List ℕ
escaped_byte b =
    if b == 38 then codes "&amp;" else
    if b == 60 then codes "&lt;" else
    if b == 62 then codes "&gt;" else
    if b == 34 then codes "&quot;" else
    if b == 39 then codes "&#39;" else
    b ∷ []

abbrev pub escaped : List ℕ → List ℕ
escaped text = flat_map escaped_byte text

-- neither < nor > nor a quotation mark
abbrev pub is_plain_byte : ℕ → Bool
is_plain_byte b = not (b == 60 || b == 62 || b == 34 || b == 39)

abbrev pub is_plain : List ℕ → Bool
is_plain text = list_all is_plain_byte text
