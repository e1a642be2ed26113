use Rattle.std.proofs.Common.{rules, ◌≡◌, sym, ap, ◌∙◌, ◌++◌, append_assoc, append-nil, subst}
use Rattle.ref_workload.specs.Marks.{EntriesStand}
use Rattle.ref_workload.proofs.Marking.{entries_more, entries_none, entry_missed, passed, passed_more}
use Rattle.ref_workload.proofs.order.entries.mark_entries.Goals as goal

pub loop-entry-init : goal.loop-entry-init
loop-entry-init c = record {
  all = search rules;
  stand = λ refused m. entries_none c.args.workers.now refused _ m;
}

pub loop-entry-preserved : goal.loop-entry-preserved
loop-entry-preserved c =
    let before = c.loop-entry.yielded in
    let first = c.in-Some.ensures.steps in
    rw (passed_more before c.in-Some.entry) (record {
      all = append_assoc (passed before) _ _ ∙ (ap (λ rest. passed before ++ rest) (sym first) ∙ c.loop-entry.invariant.all);
      stand = λ refused m. entries_more c.args.workers.now refused (passed before) _ c.loop-entry.board c.mark_entry.new.board (c.loop-entry.invariant.stand refused m) c.if-not-mark_entry.ensures;
    })

pub returns-clause-yes : goal.returns-clause-yes
returns-clause-yes c = λ refused m done.
    let before = passed c.loop-entry.yielded in
    let all : before ≡ c.args.log.now = sym (append-nil before) ∙ (ap (λ rest. before ++ rest) (sym c.in-None.ensures.steps.0) ∙ c.loop-entry.invariant.all) in
    subst (λ xs. EntriesStand c.args.workers.now refused xs c.loop-entry.board) all (c.loop-entry.invariant.stand refused m)

pub returns-then-not-mark_entry-clause-no : goal.returns-then-not-mark_entry-clause-no
returns-then-not-mark_entry-clause-no c = λ refused base m no order planned.
    let before = passed c.loop-entry.yielded in
    let first = c.in-Some.ensures.steps in
    entry_missed c.args.workers.now refused base c.args.log.now before c.in-Some.entry.now _ c.loop-entry.board
    (ap (λ rest. before ++ rest) (sym first) ∙ c.loop-entry.invariant.all) (c.loop-entry.invariant.stand refused m) c.if-not-mark_entry.ensures order planned
