use Rattle.std.proofs.Common.{◌&&◌, is_some, map, sym, ap, ◌∙◌}
use Rattle.std.specs.List.{list_all}
use Rattle.ref_forms.specs.Plain.{under}
use Rattle.ref_verdict.proofs.reading.parts.are_keys.Goals as goal

pub returns-then-are_known : goal.returns-then-are_known
returns-then-are_known c =
    let es = c.args.entries.now in
    let words = map (λ w. w.now) c.args.words.now in
    c.are_there.ensures ∙ sym (ap (λ b. b && list_all (λ word. is_some (under es word)) words) (sym c.are_known.ensures ∙ c.if-are_known.true))

pub returns-else-are_known : goal.returns-else-are_known
returns-else-are_known c =
    let es = c.args.entries.now in
    let words = map (λ w. w.now) c.args.words.now in
    c.if-are_known.false ∙ sym (ap (λ b. b && list_all (λ word. is_some (under es word)) words) (sym c.are_known.ensures ∙ c.if-are_known.false))
