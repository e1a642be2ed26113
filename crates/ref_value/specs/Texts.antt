-- The bytes of a text, wherever they lie.
use Rattle.std.specs.Prelude.{ℕ, List, take, string_bytes}
use Rattle.ref_value.specs.declared.texts.Chars.{Chars}
use Rattle.ref_value.specs.declared.texts.Chars.TheVariants.{Short, Long}

abbrev pub content : Chars → List ℕ
content (Short len bytes) = take len bytes
content (Long text) = string_bytes text
