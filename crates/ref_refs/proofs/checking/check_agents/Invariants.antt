use Rattle.std.proofs.Common.{◌≡◌, drop}
use Rattle.ref_refs.specs.Commit.{alien_agent}
use Rattle.ref_refs.proofs.checking.check_agents.Given as goal

abbrev pub invariant-loop-sent : goal.invariant-loop-sent
invariant-loop-sent l = alien_agent l.agents (drop l.sent-index l.sends) ≡ alien_agent l.agents l.sends
