use Rattle.std.proofs.Common.{◌≡◌, ◌++◌, IsUtf8, map, string_bytes}
use Rattle.std.specs.Str.Iter.{chars_rest}
use Rattle.std.specs.Str.{chars, encode_utf8_all}
use Rattle.ref_history.specs.Visible.{visible, visible_char}
use Rattle.ref_history.proofs.visible.visible_text.Given as goal

-- What is written, and what is left to write, are all of it.
abbrev pub invariant-loop-c : goal.invariant-loop-c
invariant-loop-c l =
    IsUtf8 (chars_rest l.c-iterator)
    × (string_bytes l.shown ++ encode_utf8_all (map visible_char (chars (chars_rest l.c-iterator))) ≡ visible l.text)
