use Rattle.std.proofs.Common.{◌∙◌, ap, sym}
use Rattle.ref_agents.specs.Account.{last_carries}
use Rattle.ref_agents.proofs.Released.{last_is}
use Rattle.ref_agents.proofs.accounts.Account.carries.Goals as goal

pub returns-in-len1-up : goal.returns-in-len1-up
returns-in-len1-up c =
    c.as_slice-in-len1-up.ensures.value
    ∙ sym (last_is c.as_slice.result.now c.last-item.result c.in-len1-up.len_at_least c.last-item.is)
    ∙ ap last_carries c.as_slice.ensures.value ∙ ap (λ a. last_carries a.handled) c.self.view_is
