-- The report of a run. Each line ends with a newline.
--
--   ref NAME VALUE              for each ref, then
--   atom NAME VALUE             for each atom, then
--   agent NAME VALUE STATUS     for each agent, in order of declaration; STATUS is ready or failed
--   refused WORKER STEP REASON  for each refused step
--   commits NUMBER
--   audit ..                    the verdict
use Rattle.std.specs.Prelude.{ℕ, Bool, true, false, is_some, List, [], ◌∷◌, ◌++◌, codes, decimal}
use Rattle.ref_value.specs.Edn.{Edn}
use Rattle.ref_edn.specs.Printed.{printed}
use Rattle.ref_fun.specs.declared.faults.Cause.{Cause}
use Rattle.ref_fun.specs.declared.faults.Cause.TheVariants.{WrongKind, WrongArity, Overflow, TooDeep}
use Rattle.ref_agents.specs.declared.agents.Agent.{Agent}
use Rattle.ref_world.specs.Seen.{WorldSeen}
use Rattle.ref_forms.specs.Names.{NamesSeen}
use Rattle.ref_audit.specs.declared.reports.Reason.{Reason}
use Rattle.ref_audit.specs.declared.reports.Reason.TheVariants as reasons
use Rattle.ref_audit.specs.declared.reports.Refusal.{Refusal}
use Rattle.ref_verdict.specs.declared.reports.Verdict.{Verdict}
use Rattle.ref_verdict.specs.declared.reports.Verdict.TheVariants as verdicts

abbrev pub newline : List ℕ
newline = 10 ∷ []

abbrev pub space : List ℕ
space = 32 ∷ []

-- ---- values

-- what a line begins with, the name and the value
abbrev pub value_text : List ℕ → List ℕ → Edn → List ℕ
value_text kind name value = kind ++ space ++ name ++ space ++ printed value

abbrev pub value_line : List ℕ → List ℕ → Edn → List ℕ
value_line kind name value = value_text kind name value ++ newline

-- a line for each name that has a value
abbrev pub value_lines : List ℕ → List (List ℕ) → List Edn → List ℕ
value_lines kind [] values = []
value_lines kind (name ∷ names) [] = []
value_lines kind (name ∷ names) (value ∷ values) = value_line kind name value ++ value_lines kind names values

-- ---- agents

abbrev pub status_text : Bool → List ℕ
status_text true = codes "failed"
status_text false = codes "ready"

abbrev pub agent_line : List ℕ → Edn → Bool → List ℕ
agent_line name state failed = value_text (codes "agent") name state ++ space ++ status_text failed ++ newline

abbrev pub agent_lines : List (List ℕ) → List Agent → List ℕ
agent_lines [] agents = []
agent_lines (name ∷ names) [] = []
agent_lines (name ∷ names) (agent ∷ agents) = agent_line name agent.value (is_some agent.error) ++ agent_lines names agents

-- ---- refused steps

abbrev pub cause_text : Cause → List ℕ
cause_text WrongKind = codes "wrong-kind"
cause_text WrongArity = codes "wrong-arity"
cause_text Overflow = codes "overflow"
cause_text TooDeep = codes "too-deep"

abbrev pub reason_text : Reason → List ℕ
reason_text reasons.SetAfterCommute = codes "set-after-commute"
reason_text reasons.TallyOnly = codes "tally-only"
reason_text (reasons.Refused cause) = cause_text cause
reason_text reasons.NotMet = codes "not-met"
reason_text reasons.Invalid = codes "invalid"
reason_text reasons.GaveUp = codes "gave-up"
reason_text reasons.PointLimit = codes "point-limit"
reason_text reasons.BookFull = codes "book-full"
reason_text reasons.AgentFailed = codes "agent-failed"
reason_text reasons.NotFailed = codes "not-failed"

abbrev pub refused_line : Refusal → List ℕ
refused_line r = codes "refused " ++ decimal r.stamp.worker ++ space ++ decimal r.stamp.step ++ space ++ reason_text r.reason ++ newline

abbrev pub refused_lines : List Refusal → List ℕ
refused_lines [] = []
refused_lines (r ∷ rs) = refused_line r ++ refused_lines rs

-- ---- commits and verdict

abbrev pub commits_line : ℕ → List ℕ
commits_line n = codes "commits " ++ decimal n ++ newline

-- what the audit says no to: what of an entry, a reference
abbrev pub no_text : List ℕ → ℕ → List ℕ → List ℕ
no_text what n why = codes "no " ++ what ++ space ++ decimal n ++ space ++ why

abbrev pub verdict_text : Verdict → List ℕ
verdict_text verdicts.Ok = codes "ok"
verdict_text (verdicts.NoSuch point) = no_text (codes "entry") point (codes "no-such")
verdict_text (verdicts.Refuses point) = no_text (codes "entry") point (codes "refuses")
verdict_text (verdicts.Answer point) = no_text (codes "entry") point (codes "answer")
verdict_text (verdicts.RefValue r) = no_text (codes "ref") r (codes "value")
verdict_text (verdicts.AtomValue a) = no_text (codes "atom") a (codes "value")
verdict_text (verdicts.RefRule r) = no_text (codes "ref") r (codes "rule")
verdict_text (verdicts.AtomRule a) = no_text (codes "atom") a (codes "rule")
verdict_text (verdicts.AgentRule g) = no_text (codes "agent") g (codes "rule")
verdict_text (verdicts.Fold g) = no_text (codes "agent") g (codes "fold")
verdict_text verdicts.Count = codes "no count"

abbrev pub verdict_line : Verdict → List ℕ
verdict_line verdict = codes "audit " ++ verdict_text verdict ++ newline

-- ---- all of it

-- The refused steps stand as they are listed: by worker, and then by step.
abbrev pub reported : NamesSeen → WorldSeen → List Refusal → Verdict → List ℕ
reported names world refused verdict =
    value_lines (codes "ref") names.refs world.refs.values
    ++ value_lines (codes "atom") names.atoms world.atoms.values
    ++ agent_lines names.agents world.agents.agents
    ++ refused_lines refused
    ++ commits_line world.books.commits
    ++ verdict_line verdict
