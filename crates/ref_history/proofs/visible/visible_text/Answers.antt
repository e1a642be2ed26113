use Rattle.std.proofs.Common.{◌≡◌, IsUtf8, string_bytes, sym, ap, subst, ◌∙◌, append_assoc, append-nil}
use Rattle.std.proofs.lemmas.Str.{IsUtf8-past_char, IsUtf8-string_bytes}
use Rattle.std.specs.Str.Iter.{chars_rest}
use Rattle.ref_history.proofs.Characters.{visible_begin, visible_end, visible_more}
use Rattle.ref_history.proofs.visible.visible_text.Goals as goal

pub loop-c-init : goal.loop-c-init
loop-c-init c =
    let same : chars_rest c.into_iter-c-iterator.result ≡ string_bytes c.in_ok-whole.whole =
    ap chars_rest c.into_iter-c-iterator.ensures.into_iter_gives ∙ (c.chars-c-items.ensures.rest ∙ c.as_str.ensures.value) in (
      subst IsUtf8 (sym same) (IsUtf8-string_bytes c.in_ok-whole.whole),
      visible_begin c.args.text.now _ _ c.new-shown.ensures.bytes (same ∙ c.in_ok-whole.ensures.lossy),
    )

pub loop-c-preserved : goal.loop-c-preserved
loop-c-preserved c =
    let held = c.loop-c.invariant in
    let parts = c.in-Some.ensures.steps.0 in
    let more = visible_more _ _ c.in-Some.c held.0 parts in
    (IsUtf8-past_char _ _ c.in-Some.c held.0 parts, rw (c.in_ok-push.ensures.bytes, c.visible_char.ensures, append_assoc) (rw more at held.1))

pub returns : goal.returns
returns c = sym (append-nil _) ∙ rw (visible_end _ c.in-None.ensures.steps.0.0) at c.loop-c.invariant.1
