-- Text for people. A character that moves the cursor, turns the direction of writing, is invisible, or may not stand in HTML is shown as a
-- question mark; a tab or the end of a line as a blank. Bytes that are no UTF-8 are read as U+FFFD first, which is shown as a question mark too.
use Rattle.std.specs.Prelude.{ℕ, ◌%◌, ◌==◌, ◌&&◌, ◌||◌, not, nat_lt, nat_le, Bool, if◌then◌else◌, List, [], ◌∷◌, ◌++◌, map, chars, encode_utf8_all}
use Rattle.std.specs.Int.{is_in_range}
use Rattle.std.specs.List.{list_all}
use Rattle.std.specs.Str.Lossy.{utf8_lossy}

-- a control character, or the soft hyphen, the Arabic letter mark or the Mongolian vowel separator
abbrev pub is_control : ℕ → Bool
is_control c = is_in_range 0x7F 0x9F c || c == 0xAD || c == 0x61C || c == 0x180E

-- marks of direction, separators of lines, and what joins or parts words and isn't seen
abbrev pub is_mark : ℕ → Bool
is_mark c = is_in_range 0x200B 0x200F c || is_in_range 0x2028 0x202E c || is_in_range 0x2060 0x206F c || c == 0xFEFF || is_in_range 0xFFF9 0xFFFD c || is_in_range 0xE0000 0xE007F c

-- what Unicode has no character for: surrogates, noncharacters, and numbers past the last
abbrev pub is_none : ℕ → Bool
is_none c = is_in_range 0xD800 0xDFFF c || is_in_range 0xFDD0 0xFDEF c || nat_le 0xFFFE (c % 0x10000) || nat_lt 0x10FFFF c

abbrev pub is_hidden : ℕ → Bool
is_hidden c = nat_lt c 32 || (nat_le 0x7F c && (is_control c || is_mark c || is_none c))

-- a tab, a newline and a carriage return
abbrev pub is_blank : ℕ → Bool
is_blank c = c == 9 || c == 10 || c == 13

-- the character that is shown of this one
unfoldable pub visible_char : ℕ → ℕ
visible_char c = if is_blank c then 32 else if is_hidden c then 63 else c

unfoldable pub visible : List ℕ → List ℕ
visible text = encode_utf8_all (map visible_char (chars (utf8_lossy text)))

-- what stands in ASCII and is no control character is shown as it is
abbrev pub is_printable : ℕ → Bool
is_printable b = is_in_range 0x20 0x7E b

-- A text in a line of its own.
abbrev pub line : List ℕ → List ℕ
line text = visible text ++ 10 ∷ []

-- ---- what can't stand in such lines

-- not hidden, or the end of a line
abbrev pub is_shown : ℕ → Bool
is_shown c = not (is_hidden c) || c == 10

abbrev pub is_visible : List ℕ → Bool
is_visible text = list_all is_shown (chars text)
