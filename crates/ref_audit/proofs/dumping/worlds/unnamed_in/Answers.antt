use Rattle.ref_audit.proofs.Numbered.{account_more, account_within, accounts_all}
use Rattle.ref_audit.proofs.dumping.worlds.unnamed_in.Goals as goal

pub returns-in-None : goal.returns-in-None
returns-in-None c = accounts_all c.args.world.now.agents.agents c.loop-g.g c.loop-g.found _ c.in-None.ensures.account c.loop-g.invariant.left

pub loop-g-preserved : goal.loop-g-preserved
loop-g-preserved c =
    let more = account_more c.args.world.now.agents.agents c.loop-g.g c.in-Some.account.now c.loop-g.found _ c.in-Some.ensures.account c.loop-g.invariant.left in
    record {
      left = rw (c.lesser-found.ensures, c.least_in_account.ensures) more;
      within = account_within c.args.world.now.agents.agents c.loop-g.g c.in-Some.account.now c.in-Some.ensures.account;
    }
