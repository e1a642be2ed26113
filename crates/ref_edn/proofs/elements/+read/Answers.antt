use Rattle.std.proofs.Common.{◌≡◌, ◌<◌, ◌-◌, true, false, sym, ◌∙◌, arith, length, get_or, take, drop}
use Rattle.std.specs.Prelude.{◌==◌}
use Rattle.std.proofs.lemmas.Result.{err_from_is_err_and}
use Rattle.std.proofs.lemmas.Bool.Decides.{nat_tests}
use Rattle.ref_value.specs.Edn.{items_of, entries_of}
use Rattle.ref_value.specs.Lawful.{AreLawful, AreLawfulEntries}
use Rattle.ref_edn.specs.Fronts.{may_be_blank}
use Rattle.ref_edn.specs.ReadParts.{items_at, set_at, map_at, front_is_discard}
use Rattle.ref_edn.specs.Reading.{skip}
use Rattle.ref_edn.proofs.Turns.{skips_space, skips_start, skips_comment, skips_discard, skips_fails, skips_end, skips_stop, comment_shorter, single_is}
use Rattle.ref_edn.proofs.Loops.{items_start, items_fails, items_closed, items_more}
use Rattle.ref_edn.proofs.Marked.{marks_set_start, marks_set_more, set_stopped, set_ended, set_in_order, marks_map_start, marks_map_more, marks_map_last, map_stopped, map_ended, map_in_order}
use Rattle.ref_edn.proofs.ReadLawful.{vector_lawful, set_lawful, map_lawful}
use Rattle.ref_edn.proofs.elements.+read.Goals as goal

pub skip-returns-then-not-may_be_blank-2-clause-value : goal.skip-returns-then-not-may_be_blank-2-clause-value
skip-returns-then-not-may_be_blank-2-clause-value t c =
    let some : 0 < length c.args.text.now = omega arith in
    let is : get_or c.args.text.now 0 0 ≡ 32 = omega arith in
    let none : may_be_blank (take (length c.args.text.now - 1) (drop 1 c.args.text.now)) ≡ false = cc in
    skips_space c.args.room c.args.text.now some is none

pub pass-loop-alloc-init : goal.pass-loop-alloc-init
pass-loop-alloc-init t c = record { reads = rw c.after_spaces-rest.ensures.value (skips_start c.args.room c.args.text.now); shorter = omega arith }

pub pass-loop-alloc-smaller-then-rest-eq59 : goal.pass-loop-alloc-smaller-then-rest-eq59
pass-loop-alloc-smaller-then-rest-eq59 t c =
    let some : 0 < length c.loop-alloc.rest.now = grind (arith, nat_tests) in
    let is : (get_or c.loop-alloc.rest.now 0 0 == 59) ≡ true = grind (arith, nat_tests) in
    let line : length c.line_end.result.now < length c.loop-alloc.rest.now = rw c.line_end.ensures.value (comment_shorter c.loop-alloc.rest.now some is) in
    let smaller : length c.after_spaces-rest-then-rest-eq59.result.now < length c.loop-alloc.rest.now = omega arith in
    smaller

pub pass-loop-alloc-preserved-then-rest-eq59 : goal.pass-loop-alloc-preserved-then-rest-eq59
pass-loop-alloc-preserved-then-rest-eq59 t c =
    let some : 0 < length c.loop-alloc.rest.now = grind (arith, nat_tests) in
    let is : (get_or c.loop-alloc.rest.now 0 0 == 59) ≡ true = grind (arith, nat_tests) in
    record {
      reads = rw (c.after_spaces-rest-then-rest-eq59.ensures.value, c.line_end.ensures.value) (skips_comment c.args.room c.loop-alloc.rest.now (skip c.args.room c.args.text.now) some is c.loop-alloc.invariant.reads);
      shorter = omega arith;
    }

pub pass-returns-in_err-discarded-clause-value : goal.pass-returns-in_err-discarded-clause-value
pass-returns-in_err-discarded-clause-value t c =
    let p = err_from_is_err_and c.from_residual.result c.from_residual.ensures.1 in
    let isnt : (get_or c.loop-alloc.rest.now 0 0 == 59) ≡ false = grind (arith, nat_tests) in
    let is : front_is_discard c.loop-alloc.rest.now ≡ true = cc in
    rw (p.1, p.2) (skips_fails c.args.room c.loop-alloc.rest.now (skip c.args.room c.args.text.now) c.in_err-discarded.field-0.0 isnt is c.in_err-discarded.ensures.value c.loop-alloc.invariant.reads)

pub pass-loop-alloc-preserved : goal.pass-loop-alloc-preserved
pass-loop-alloc-preserved t c =
    let isnt : (get_or c.loop-alloc.rest.now 0 0 == 59) ≡ false = grind (arith, nat_tests) in
    let is : front_is_discard c.loop-alloc.rest.now ≡ true = cc in
    record {
      reads = rw c.after_spaces-rest-then-is_discard.ensures.value (skips_discard c.args.room c.loop-alloc.rest.now (skip c.args.room c.args.text.now) c.in_ok-discarded.field-0.now isnt is c.in_ok-discarded.ensures.value (omega (arith, c.in_ok-discarded.ensures.shorter)) c.loop-alloc.invariant.reads);
      shorter = omega (arith, c.in_ok-discarded.ensures.shorter);
    }

pub pass-returns-else-is_discard-clause-value : goal.pass-returns-else-is_discard-clause-value
pass-returns-else-is_discard-clause-value t c =
    let some : 0 < length c.loop-alloc.rest.now = grind (arith, nat_tests) in
    let isnt : (get_or c.loop-alloc.rest.now 0 0 == 59) ≡ false = grind (arith, nat_tests) in
    let nor : front_is_discard c.loop-alloc.rest.now ≡ false = cc in
    skips_stop c.args.room c.loop-alloc.rest.now (skip c.args.room c.args.text.now) some isnt nor c.loop-alloc.invariant.reads

pub pass-returns-clause-value : goal.pass-returns-clause-value
pass-returns-clause-value t c =
    let none : length c.loop-alloc.rest.now ≡ 0 = grind (arith, nat_tests) in
    skips_end c.args.room c.loop-alloc.rest.now (skip c.args.room c.args.text.now) none c.loop-alloc.invariant.reads

pub items-loop-found-init : goal.items-loop-found-init
items-loop-found-init t c = rw c.list-found.ensures (record { reads = items_start c.args.room c.args.close c.args.text.now; shorter = omega arith })

pub items-returns-in_err-item-clause-value : goal.items-returns-in_err-item-clause-value
items-returns-in_err-item-clause-value t c =
    let p = err_from_is_err_and c.from_residual.result c.from_residual.ensures.1 in
    rw (p.1, p.2) (items_fails c.args.room c.args.close c.loop-found.found.items c.loop-found.rest.now (items_at c.args.room c.args.close c.args.text.now) c.in_err-item.field-0.0 c.in_err-item.ensures.value c.loop-found.invariant.reads)

pub items-returns-in_default-clause-value : goal.items-returns-in_default-clause-value
items-returns-in_default-clause-value t c =
    let at = rw c.in_default.is at c.in_ok-item.ensures.value in
    items_closed c.args.room c.args.close c.loop-found.found.items c.loop-found.rest.now c.in_ok-item.field-0-0.now c.in_ok-item.behind.now (items_at c.args.room c.args.close c.args.text.now) at c.loop-found.invariant.reads

pub items-loop-found-preserved : goal.items-loop-found-preserved
items-loop-found-preserved t c =
    let at = rw c.in-Some.is at c.in_ok-item.ensures.value in
    let shorter : length c.in_ok-item.behind.now < length c.loop-found.rest.now = omega (arith, c.in_ok-item.ensures.shorter, c.in_ok-item.ensures.start) in
    rw c.in_ok-push.ensures.items (record {
      reads = items_more c.args.room c.args.close c.loop-found.found.items c.loop-found.rest.now c.in_ok-item.field-0-0.now c.in-Some.item c.in_ok-item.behind.now (items_at c.args.room c.args.close c.args.text.now) at shorter c.loop-found.invariant.reads;
      shorter = omega (arith, shorter);
    })

pub marked_elements-loop-start-init : goal.marked_elements-loop-start-init
marked_elements-loop-start-init t c = rw c.requires.empty (record { reads = marks_set_start c.args.room c.args.text.now; shorter = omega arith })

pub marked_elements-returns-in_err-start-clause-once : goal.marked_elements-returns-in_err-start-clause-once
marked_elements-returns-in_err-start-clause-once t c none =
    let p = err_from_is_err_and c.from_residual.result c.from_residual.ensures.1 in
    rw (p.1, p.2) (set_stopped c.args.room c.loop-start.found.items c.loop-start.rest.now (set_at c.args.room c.args.text.now) c.in_err-start.field-0.0 c.in_err-start.ensures.value c.loop-start.invariant.reads none)

pub marked_elements-returns-in_default-clause-once : goal.marked_elements-returns-in_default-clause-once
marked_elements-returns-in_default-clause-once t c none =
    let at = rw c.in_default.is at c.in_ok-start.ensures.value in
    set_ended c.args.room c.loop-start.found.items c.loop-start.rest.now c.in_ok-start.start.now c.in_ok-start.behind.now (set_at c.args.room c.args.text.now) at c.loop-start.invariant.reads none

pub marked_elements-loop-start-preserved : goal.marked_elements-loop-start-preserved
marked_elements-loop-start-preserved t c =
    let at = rw c.in-Some.is at c.in_ok-start.ensures.value in
    rw (c.in_ok-push.ensures.items, c.of.ensures) (record {
      reads = marks_set_more c.args.room c.loop-start.found.items c.loop-start.rest.now c.in_ok-start.start.now c.in_ok-start.behind.now c.in-Some.element (set_at c.args.room c.args.text.now) at c.in_ok-start.ensures.start c.in_ok-start.ensures.shorter c.loop-start.invariant.reads;
      shorter = omega (arith, c.in_ok-start.ensures.shorter, c.in_ok-start.ensures.start);
    })

pub elements-returns-clause-value : goal.elements-returns-clause-value
elements-returns-clause-value t c =
    let none : c.sort_elements-left.result ≡ 0 = omega arith in
    let first = sym c.sort_elements-left.ensures.first ∙ none in
    rw c.in_ok-into_values.ensures (set_in_order c.marked_elements-end.new.found.items c.sort_elements-left.new.found.items c.in_ok-rest.rest.now (set_at c.args.room c.args.text.now) (c.in_ok-rest.ensures.once first) c.sort_elements-left.ensures.permutation
    (c.sort_elements-left.ensures.ascends none))

pub marked_entries-loop-start-init : goal.marked_entries-loop-start-init
marked_entries-loop-start-init t c = rw c.requires.empty (record { reads = marks_map_start c.args.room c.args.text.now; shorter = omega arith })

pub marked_entries-returns-in_err-start-clause-once : goal.marked_entries-returns-in_err-start-clause-once
marked_entries-returns-in_err-start-clause-once t c none =
    let p = err_from_is_err_and c.from_residual.result c.from_residual.ensures.1 in
    rw (p.1, p.2) (map_stopped c.args.room c.loop-start.found.items c.loop-start.rest.now (map_at c.args.room c.args.text.now) c.in_err-start.field-0.0 c.in_err-start.ensures.value c.loop-start.invariant.reads none)

pub marked_entries-returns-in_default-clause-once : goal.marked_entries-returns-in_default-clause-once
marked_entries-returns-in_default-clause-once t c none =
    let at = rw c.in_default.is at c.in_ok-start.ensures.value in
    map_ended c.args.room c.loop-start.found.items c.loop-start.rest.now c.in_ok-start.start.now c.in_ok-start.behind.now (map_at c.args.room c.args.text.now) at c.loop-start.invariant.reads none

pub marked_entries-loop-start-preserved : goal.marked_entries-loop-start-preserved
marked_entries-loop-start-preserved t c =
    let at = rw c.in-Some.is at c.in_ok-start.ensures.value in
    rw (c.in_ok-push-in-Ok.ensures.items, c.of.ensures) (record {
      reads = marks_map_more c.args.room c.loop-start.found.items c.loop-start.rest.now c.in_ok-start.start.now c.in_ok-start.behind.now c.in-Some.key (map_at c.args.room c.args.text.now) at c.in_ok-start.ensures.start c.in_ok-start.ensures.shorter c.in-Ok.value c.in-Ok.behind.now
          c.in-Ok.ensures.value c.in-Ok.ensures.shorter c.loop-start.invariant.reads;
      shorter = omega (arith, c.in_ok-start.ensures.shorter, c.in_ok-start.ensures.start, c.in-Ok.ensures.shorter);
    })

pub marked_entries-returns-in-Err-clause-falls : goal.marked_entries-returns-in-Err-clause-falls
marked_entries-returns-in-Err-clause-falls t c =
    let at = rw c.in-Some.is at c.in_ok-start.ensures.value in
    let last = marks_map_last c.args.room c.loop-start.found.items c.loop-start.rest.now c.in_ok-start.start.now c.in_ok-start.behind.now c.in-Some.key (map_at c.args.room c.args.text.now) at c.in_ok-start.ensures.start c.in_ok-start.ensures.shorter c.of_lawful.result c.in-Err.error
    c.in-Err.ensures.value c.loop-start.invariant.reads in
    rw (c.in_ok-push-in-Err.ensures.items, c.of.ensures) last.0

pub marked_entries-returns-in-Err-clause-twice : goal.marked_entries-returns-in-Err-clause-twice
marked_entries-returns-in-Err-clause-twice t c =
    let at = rw c.in-Some.is at c.in_ok-start.ensures.value in
    let last = marks_map_last c.args.room c.loop-start.found.items c.loop-start.rest.now c.in_ok-start.start.now c.in_ok-start.behind.now c.in-Some.key (map_at c.args.room c.args.text.now) at c.in_ok-start.ensures.start c.in_ok-start.ensures.shorter c.of_lawful.result c.in-Err.error
    c.in-Err.ensures.value c.loop-start.invariant.reads in
    rw (c.in_ok-push-in-Err.ensures.items, c.of.ensures) last.1

pub marked_entries-returns-in-Err-clause-once : goal.marked_entries-returns-in-Err-clause-once
marked_entries-returns-in-Err-clause-once t c =
    let at = rw c.in-Some.is at c.in_ok-start.ensures.value in
    let last = marks_map_last c.args.room c.loop-start.found.items c.loop-start.rest.now c.in_ok-start.start.now c.in_ok-start.behind.now c.in-Some.key (map_at c.args.room c.args.text.now) at c.in_ok-start.ensures.start c.in_ok-start.ensures.shorter c.of_lawful.result c.in-Err.error
    c.in-Err.ensures.value c.loop-start.invariant.reads in
    rw (c.in_ok-push-in-Err.ensures.items, c.of.ensures) last.2

pub entries-returns-clause-value : goal.entries-returns-clause-value
entries-returns-clause-value t c =
    let none : c.sort_entries-left.result ≡ 0 = omega arith in
    let first = sym c.sort_entries-left.ensures.first ∙ none in
    rw c.in_ok-into_pairs.ensures (map_in_order c.marked_entries-end.new.found.items c.sort_entries-left.new.found.items c.in_ok-rest.rest.now (map_at c.args.room c.args.text.now) (c.in_ok-rest.ensures.once first) c.sort_entries-left.ensures.permutation
    (c.sort_entries-left.ensures.ascends none))

pub read-returns-in-len1-up-clause-value : goal.read-returns-in-len1-up-clause-value
read-returns-in-len1-up-clause-value t c =
    let some : 0 < length c.args.text.now = omega arith in
    let square : (get_or c.args.text.now 0 0 == 91) ≡ false = grind (arith, nat_tests) in
    let round : (get_or c.args.text.now 0 0 == 40) ≡ false = grind (arith, nat_tests) in
    let curly : (get_or c.args.text.now 0 0 == 123) ≡ false = grind (arith, nat_tests) in
    let hash : (get_or c.args.text.now 0 0 == 35) ≡ false = grind (arith, nat_tests) in
    rw (single_is c.args.room c.args.text.now some square round curly hash) c.single-in-len1-up.ensures.value

pub vector-of_lawful-requires : goal.vector-of_lawful-requires
vector-of_lawful-requires t c =
    let below : c.args.room - 1 < 64 = omega arith in
    rw c.in_ok-items.ensures (vector_lawful (c.args.room - 1) c.args.close c.after.result.now c.in_ok-list.list.items c.in_ok-list.rest.now below c.in_ok-list.ensures.value (rw (← c.in_ok-items.ensures) c.deepest-deepest.ensures.lawful))

pub mapping-of_lawful-requires : goal.mapping-of_lawful-requires
mapping-of_lawful-requires t c =
    let below : c.args.room - 1 < 64 = omega arith in
    let lawful : AreLawfulEntries (entries_of c.in_ok-pairs.pairs.items) = rw (← c.in_ok-entries.ensures) c.deepest-deepest.ensures.lawful in
    rw c.in_ok-entries.ensures (map_lawful (c.args.room - 1) c.after.result.now c.in_ok-pairs.pairs.items c.in_ok-pairs.rest.now below c.in_ok-pairs.ensures.value lawful)

pub collection-of_lawful-requires : goal.collection-of_lawful-requires
collection-of_lawful-requires t c =
    let below : c.args.room - 1 < 64 = omega arith in
    let lawful : AreLawful (items_of c.in_ok-values.values.items) = rw (← c.in_ok-elements.ensures) c.deepest-deepest.ensures.lawful in
    rw c.in_ok-elements.ensures (set_lawful (c.args.room - 1) c.after.result.now c.in_ok-values.values.items c.in_ok-values.rest.now below c.in_ok-values.ensures.value lawful)
