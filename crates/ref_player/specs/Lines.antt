-- The lines of a play: of each event its number, how it is written without the brackets, ` -> ` and the reply to its actor.
use Rattle.std.specs.Prelude.{ℕ, ◌+◌, Bool, true, false, List, [], ◌∷◌, ◌++◌, Option, None, Some, Result, Ok, Err, codes, decimal, unwrap_or}
use Rattle.ref_value.specs.Edn.{Edn, vector, list_of}
use Rattle.ref_edn.specs.Printed.{printed}
use Rattle.ref_fun.specs.Names.{core_names, name_in}
use Rattle.ref_fun.specs.declared.rules.Rule.{Rule}
use Rattle.ref_log.specs.declared.faults.MakeFault.{MakeFault}
use Rattle.ref_log.specs.declared.faults.MakeFault.TheVariants as makes
use Rattle.ref_log.specs.declared.faults.RuleFault.{RuleFault}
use Rattle.ref_log.specs.declared.faults.RuleFault.TheVariants as rules
use Rattle.ref_log.specs.declared.faults.WatchFault.{WatchFault}
use Rattle.ref_log.specs.declared.faults.WatchFault.TheVariants as watches
use Rattle.ref_log.specs.declared.notices.Notice.{Notice}
use Rattle.ref_log.specs.declared.notices.Who.{Who}
use Rattle.ref_log.specs.declared.notices.Who.TheVariants.{Ref, Atom, Agent}
use Rattle.ref_tx.specs.declared.faults.TxFault.{TxFault}
use Rattle.ref_tx.specs.declared.faults.TxFault.TheVariants as txs
use Rattle.ref_refs.specs.declared.faults.CommitFault.{CommitFault}
use Rattle.ref_refs.specs.declared.faults.CommitFault.TheVariants as commits
use Rattle.ref_atoms.specs.declared.changes.Cas.{Cas}
use Rattle.ref_atoms.specs.declared.changes.Swapped.{Swapped}
use Rattle.ref_atoms.specs.declared.faults.AtomFault.{AtomFault}
use Rattle.ref_atoms.specs.declared.faults.AtomFault.TheVariants as atoms
use Rattle.ref_agents.specs.declared.ends.Finished.{Finished}
use Rattle.ref_agents.specs.declared.ends.Finished.TheVariants as ends
use Rattle.ref_agents.specs.declared.faults.AgentError.{AgentError}
use Rattle.ref_agents.specs.declared.faults.AgentError.TheVariants as errors
use Rattle.ref_agents.specs.declared.faults.FinishFault.{FinishFault}
use Rattle.ref_agents.specs.declared.faults.FinishFault.TheVariants as finishes
use Rattle.ref_agents.specs.declared.faults.JobFault.{JobFault}
use Rattle.ref_agents.specs.declared.faults.JobFault.TheVariants as jobs
use Rattle.ref_agents.specs.declared.faults.ModeFault.{ModeFault}
use Rattle.ref_agents.specs.declared.faults.ModeFault.TheVariants as modes
use Rattle.ref_agents.specs.declared.faults.RestartFault.{RestartFault}
use Rattle.ref_agents.specs.declared.faults.RestartFault.TheVariants as restarts
use Rattle.ref_agents.specs.declared.faults.SendFault.{SendFault}
use Rattle.ref_agents.specs.declared.faults.SendFault.TheVariants as sends
use Rattle.ref_world.specs.declared.commits.Receipt.{Receipt}
use Rattle.ref_world.specs.declared.faults.CheckpointFault.{CheckpointFault}
use Rattle.ref_world.specs.declared.faults.CheckpointFault.TheVariants as checkpoints
use Rattle.ref_audit.specs.Report.{cause_text, newline, space}
use Rattle.ref_play.specs.declared.events.Reply.{Reply}
use Rattle.ref_play.specs.declared.events.Reply.TheVariants as replies

-- ---- words and what stands behind them

abbrev pub out_of_memory : List ℕ
out_of_memory = codes "out-of-memory"

abbrev pub no_such_fun : List ℕ
no_such_fun = codes "no-such-fun"

abbrev pub ok_text : List ℕ
ok_text = codes "ok"

abbrev pub none_text : List ℕ
none_text = codes "none"

abbrev pub invalid_text : List ℕ
invalid_text = codes "invalid"

abbrev pub flag_text : Bool → List ℕ
flag_text true = codes "true"
flag_text false = codes "false"

abbrev pub numbered : List ℕ → ℕ → List ℕ
numbered word n = word ++ space ++ decimal n

abbrev pub valued : List ℕ → Edn → List ℕ
valued word v = word ++ space ++ printed v

-- each element, with a space in front
abbrev pub spaced : List Edn → List ℕ
spaced [] = []
spaced (x ∷ xs) = space ++ printed x ++ spaced xs

-- what a call answered, or its fault
abbrev pub either : {T Fault : Type 0} → (T → List ℕ) → (Fault → List ℕ) → Result T Fault → List ℕ
either answer fault (Ok x) = answer x
either answer fault (Err f) = fault f

-- that a call was made, or its fault
abbrev pub done_text : {T Fault : Type 0} → (Fault → List ℕ) → Result T Fault → List ℕ
done_text fault told = either (λ done. ok_text) fault told

-- ---- faults

abbrev pub tx_fault_text : TxFault → List ℕ
tx_fault_text txs.NoSuchRef = codes "no-such-ref"
tx_fault_text txs.SetAfterCommute = codes "set-after-commute"
tx_fault_text txs.TallyOnly = codes "tally-only"
tx_fault_text (txs.Refused cause) = cause_text cause
tx_fault_text (txs.NoSuchFun code) = no_such_fun
tx_fault_text txs.NoSuchAgent = codes "no-such-agent"
tx_fault_text txs.NotMet = codes "not-met"
tx_fault_text txs.Memory = out_of_memory

-- A conflict names the ref, the read point and the point of the ref's last change.
abbrev pub commit_fault_text : CommitFault → List ℕ
commit_fault_text (commits.Foreign alien) = codes "foreign"
commit_fault_text (commits.Conflict c) = numbered (numbered (numbered (codes "conflict") c.r) c.read_point) c.changed_at
commit_fault_text (commits.Refused r cause) = numbered (codes "refused") r ++ space ++ cause_text cause
commit_fault_text (commits.Invalid r) = numbered invalid_text r
commit_fault_text commits.PointLimit = codes "point-limit"
commit_fault_text commits.BookFull = codes "book-full"
commit_fault_text commits.Memory = out_of_memory
commit_fault_text (commits.NoSuchFun code) = no_such_fun

abbrev pub atom_fault_text : AtomFault → List ℕ
atom_fault_text atoms.NoSuchAtom = codes "no-such-atom"
atom_fault_text (atoms.NoSuchFun code) = no_such_fun
atom_fault_text (atoms.Refused cause) = cause_text cause
atom_fault_text atoms.Invalid = invalid_text
atom_fault_text atoms.PointLimit = codes "point-limit"
atom_fault_text atoms.Memory = out_of_memory

abbrev pub send_fault_text : SendFault → List ℕ
send_fault_text sends.NoSuchAgent = codes "no-such-agent"
send_fault_text sends.Failed = codes "agent-failed"
send_fault_text sends.Memory = out_of_memory

abbrev pub job_fault_text : JobFault → List ℕ
job_fault_text (jobs.NoSuchFun code) = no_such_fun
job_fault_text jobs.Memory = out_of_memory

abbrev pub finish_fault_text : FinishFault → List ℕ
finish_fault_text finishes.Foreign = codes "foreign"
finish_fault_text finishes.Memory = out_of_memory
finish_fault_text (finishes.NoSuchFun code) = no_such_fun

abbrev pub restart_fault_text : RestartFault → List ℕ
restart_fault_text restarts.NoSuchAgent = codes "no-such-agent"
restart_fault_text restarts.NotFailed = codes "not-failed"
restart_fault_text restarts.Invalid = invalid_text
restart_fault_text restarts.Memory = out_of_memory
restart_fault_text (restarts.NoSuchFun code) = no_such_fun

abbrev pub mode_fault_text : ModeFault → List ℕ
mode_fault_text modes.NoSuchAgent = codes "no-such-agent"

abbrev pub rule_fault_text : RuleFault → List ℕ
rule_fault_text rules.NoSuch = codes "no-such"
rule_fault_text rules.Invalid = invalid_text
rule_fault_text rules.Memory = out_of_memory
rule_fault_text (rules.NoSuchFun code) = no_such_fun

abbrev pub watch_fault_text : WatchFault → List ℕ
watch_fault_text watches.NoSuch = codes "no-such"
watch_fault_text watches.Memory = out_of_memory

abbrev pub make_fault_text : MakeFault → List ℕ
make_fault_text makes.Full = codes "full"
make_fault_text makes.BadTally = codes "bad-tally"
make_fault_text makes.Invalid = invalid_text
make_fault_text makes.PointLimit = codes "point-limit"
make_fault_text makes.Memory = out_of_memory
make_fault_text (makes.NoSuchFun code) = no_such_fun

abbrev pub checkpoint_fault_text : CheckpointFault → List ℕ
checkpoint_fault_text checkpoints.NoSuchPoint = codes "no-such-point"
checkpoint_fault_text checkpoints.Memory = out_of_memory
checkpoint_fault_text (checkpoints.NoSuchFun code) = no_such_fun

abbrev pub agent_error_text : AgentError → List ℕ
agent_error_text (errors.Refused cause) = cause_text cause
agent_error_text errors.Invalid = invalid_text

-- ---- notices

abbrev pub who_text : Who → List ℕ
who_text (Ref n) = numbered (codes "ref") n
who_text (Atom n) = numbered (codes "atom") n
who_text (Agent n) = numbered (codes "agent") n

-- the watch's key, the reference, and its values before and after
abbrev pub notice_text : Notice → List ℕ
notice_text n = codes " watch " ++ printed n.key ++ space ++ who_text n.who ++ space ++ printed n.before ++ space ++ printed n.after

abbrev pub notices_text : List Notice → List ℕ
notices_text [] = []
notices_text (n ∷ ns) = notice_text n ++ notices_text ns

-- ---- the lines of a play

abbrev pub value_text : Edn → List ℕ
value_text v = valued (codes "value") v

abbrev pub point_text : ℕ → List ℕ
point_text p = numbered (codes "point") p

abbrev pub receipt_text : Receipt → List ℕ
receipt_text receipt = point_text receipt.point ++ notices_text receipt.notices.items

abbrev pub swapped_text : Swapped → List ℕ
swapped_text s = valued (valued (codes "swapped") s.old) s.new ++ notices_text s.notices.items

abbrev pub cas_text : Cas → List ℕ
cas_text cas = flag_text cas.done ++ notices_text cas.notices.items

-- the agent and the number of the job
abbrev pub taken_text : Option (ℕ × ℕ) → List ℕ
taken_text None = none_text
taken_text (Some job) = numbered (numbered (codes "job") job.0) job.1

abbrev pub finished_text : Finished → List ℕ
finished_text (ends.Changed notices) = codes "changed" ++ notices_text notices.items
finished_text (ends.Failed error) = codes "failed " ++ agent_error_text error
finished_text (ends.Continued error) = codes "continued " ++ agent_error_text error

abbrev pub value_if_there : Option Edn → List ℕ
value_if_there None = none_text
value_if_there (Some v) = value_text v

-- the name of a predicate of Core; other codes have none
abbrev pub predicate_name : ℕ → List ℕ
predicate_name code = unwrap_or (name_in core_names code) []

-- [P ARG ..]
abbrev pub rule_text : Rule → List ℕ
rule_text rule = codes "rule [" ++ predicate_name rule.code ++ spaced rule.args ++ codes "]"

abbrev pub rule_if_there : Option Rule → List ℕ
rule_if_there None = none_text
rule_if_there (Some rule) = rule_text rule

abbrev pub error_text : Option AgentError → List ℕ
error_text None = none_text
error_text (Some error) = agent_error_text error

abbrev pub reply_text : Reply → List ℕ
reply_text replies.NoTx = codes "no-tx"
reply_text replies.NoJob = codes "no-job"
reply_text replies.Busy = codes "busy"
reply_text (replies.Begin told) = either point_text (λ e. out_of_memory) told
reply_text (replies.Deref told) = either value_text tx_fault_text told
reply_text (replies.RefSet told) = either value_text tx_fault_text told
reply_text (replies.Alter told) = either value_text tx_fault_text told
reply_text (replies.Commute told) = either value_text tx_fault_text told
reply_text (replies.Ensure told) = either value_text tx_fault_text told
reply_text (replies.SendInTx told) = done_text tx_fault_text told
reply_text (replies.Require told) = done_text tx_fault_text told
reply_text (replies.ReadPoint p) = point_text p
reply_text (replies.Commit told) = either receipt_text commit_fault_text told
reply_text replies.Abort = ok_text
reply_text (replies.Release freed) = flag_text freed
reply_text (replies.ReleaseCarried freed) = flag_text freed
reply_text (replies.Swap told) = either swapped_text atom_fault_text told
reply_text (replies.Reset told) = either swapped_text atom_fault_text told
reply_text (replies.CompareAndSet told) = either cas_text atom_fault_text told
reply_text (replies.Send told) = done_text send_fault_text told
reply_text (replies.Take told) = either taken_text (λ e. out_of_memory) told
reply_text (replies.Run told) = done_text job_fault_text told
reply_text replies.PutBack = ok_text
reply_text (replies.Finish told) = either finished_text finish_fault_text told
reply_text (replies.Restart told) = done_text restart_fault_text told
reply_text (replies.SetErrorMode told) = done_text mode_fault_text told
reply_text (replies.Fold told) = either flag_text (λ e. out_of_memory) told
reply_text (replies.SetValidator told) = done_text rule_fault_text told
reply_text (replies.AddWatch told) = either flag_text watch_fault_text told
reply_text (replies.RemoveWatch was) = flag_text was
reply_text (replies.MakeRef told) = either (numbered (codes "ref")) make_fault_text told
reply_text (replies.MakeAtom told) = either (numbered (codes "atom")) make_fault_text told
reply_text (replies.MakeAgent told) = either (numbered (codes "agent")) make_fault_text told
reply_text (replies.Checkpoint told) = either (numbered (codes "folded")) checkpoint_fault_text told
reply_text (replies.ValueOf told) = either value_if_there (λ e. out_of_memory) told
reply_text (replies.RuleOf told) = either rule_if_there (λ e. out_of_memory) told
reply_text (replies.ErrorOf error) = error_text error

-- ---- lines

abbrev pub form_text : Edn → List ℕ
form_text (vector xs) = spaced (list_of xs)
form_text x = space ++ printed x

abbrev pub event_line : ℕ → Edn → Reply → List ℕ
event_line n form reply = decimal n ++ form_text form ++ codes " -> " ++ reply_text reply ++ newline

-- the line of a start that is refused: the reference that can't begin so, and why
abbrev pub start_line : Who → MakeFault → List ℕ
start_line who fault = codes "start -> " ++ who_text who ++ space ++ make_fault_text fault ++ newline

-- a line for each event that was answered, the first with this number
abbrev pub event_lines : ℕ → List Edn → List Reply → List ℕ
event_lines n (form ∷ forms) (reply ∷ replies) = event_line n form reply ++ event_lines (n + 1) forms replies
event_lines n [] replies = []
event_lines n (form ∷ forms) [] = []
