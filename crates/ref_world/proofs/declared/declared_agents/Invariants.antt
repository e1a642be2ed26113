use Rattle.std.proofs.Common.{◌≡◌, None, Option, [], Ok, drop}
use Rattle.ref_log.specs.declared.faults.MakeFault.{MakeFault}
use Rattle.ref_log.specs.declared.notices.Who.{Who}
use Rattle.ref_world.specs.Starts.{declared_agents, first_refused, made_all, no_agents, with_agent}
use Rattle.ref_world.proofs.declared.declared_agents.Given as goal

abbrev pub invariant-loop-start : goal.invariant-loop-start
invariant-loop-start g l =
    let accepts = g.M.Meaning.accepts in
    let knows = (g.F.Functions.knows l.funs).preds in
    record {
      made : made_all (with_agent accepts knows) (drop l.start-index l.starts) (Ok l.agents) ≡ declared_agents accepts knows l.starts;
      held : l.agents.unreleased ≡ [];
      first : (next : Option (Who × MakeFault)) → first_refused (with_agent accepts knows) (drop l.start-index l.starts) l.agents next ≡ None → first_refused (with_agent accepts knows) l.starts no_agents next ≡ None;
    }
