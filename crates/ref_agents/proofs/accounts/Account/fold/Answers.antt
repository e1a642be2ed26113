use Rattle.std.proofs.Common.{refl, rules, sym}
use Rattle.std.proofs.lemmas.Fn.{filter_same}
use Rattle.ref_agents.specs.Account.{AccountSeen, is_failed_mark}
use Rattle.ref_agents.specs.declared.accounts.Handled.{Handled}
use Rattle.ref_agents.proofs.Folded.{folded_is}
use Rattle.ref_agents.proofs.accounts.Account.fold.Goals as goal

pub returns : goal.returns
returns c =
    let inside = c.self.inside in
    let before : AccountSeen = record { start = inside.start; past = inside.past; handled = inside.handled.items; queue = inside.queue.items } in
    let left = filter_same _ (λ (h : Handled). is_failed_mark h.mark) _ (λ x b f' k. search rules) _ _ c.retain.ensures.filtered in
    rw (sym c.self.view_is)
    (folded_is before c.args.state _ c.retain.new.self.items left (rw (c.len-before.ensures, c.len.ensures, inside.handled.ok.0, c.retain.new.self.ok.0) refl))
