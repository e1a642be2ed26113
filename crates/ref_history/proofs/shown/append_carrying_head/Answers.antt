use Rattle.std.proofs.Common.{◌++◌, ◌∙◌, ap}
use Rattle.ref_log.specs.declared.notices.Who.TheVariants as whos
use Rattle.ref_history.specs.Shown.{bracketed, call_text, reference_text}
use Rattle.ref_history.proofs.Sends.{head_more}
use Rattle.ref_history.proofs.shown.append_carrying_head.Goals as goal

pub returns : goal.returns
returns c =
    head_more c.args.out.now.items c.extend_from_slice.new.self.items c.append_reference.new.out.items c.append_bracketed.new.out.items
    (reference_text c.args.names.now (whos.Agent c.args.sent.now.agent)) (call_text c.args.sent.now.action.code c.args.sent.now.action.args)
    c.in_ok-extend_from_slice.ensures.items c.in_ok-append_reference.ensures
    (c.in_ok-append_bracketed.ensures ∙ ap (λ xs. c.append_reference.new.out.items ++ bracketed (call_text c.args.sent.now.action.code xs)) c.as_slice.ensures.value)
