use Rattle.std.proofs.Common.{◌≡◌, None, Some, ap, sym, ◌∙◌, take, arith}
use Rattle.ref_log.specs.Replay.{missing}
use Rattle.ref_log.specs.declared.counting.Side.TheVariants.{Added, Taken}
use Rattle.ref_world.proofs.Folded.{first_called, first_commits, first_moved, first_replays}
use Rattle.ref_world.proofs.checkpoints.parted.Goals as goal

pub fold-requires-clause-commits : goal.fold-requires-clause-commits
fold-requires-clause-commits g c =
    let is : c.in_ok-first.first ≡ take c.args.count c.args.log.now = c.in_ok-first.ensures in
    let part = first_commits c.args.log.now c.args.count in
    let all = c.requires.commits in
    rw is (omega (arith, part, all))

pub fold-requires-clause-added : goal.fold-requires-clause-added
fold-requires-clause-added g c =
    let is : c.in_ok-first.first ≡ take c.args.count c.args.log.now = c.in_ok-first.ensures in
    let part = first_moved Added c.args.base.now.tally c.args.log.now c.args.count in
    let all = c.requires.added in
    rw is (omega (arith, part, all))

pub fold-requires-clause-taken : goal.fold-requires-clause-taken
fold-requires-clause-taken g c =
    let is : c.in_ok-first.first ≡ take c.args.count c.args.log.now = c.in_ok-first.ensures in
    let part = first_moved Taken c.args.base.now.tally c.args.log.now c.args.count in
    let all = c.requires.taken in
    rw is (omega (arith, part, all))

pub unreachable-requires : goal.unreachable-requires
unreachable-requires g c =
    let is : c.in_ok-first.first ≡ take c.args.count c.args.log.now = c.in_ok-first.ensures in
    let lacks = rw (is, c.in-Err-NoSuchFun.field-0-is) at c.in-Err-NoSuchFun.ensures.err in
    let called = first_called g.M.Meaning.means c.args.base.now c.args.log.now c.args.count c.requires.replayed in
    let none = ap (missing (g.F.Functions.knows c.args.funs.now).funs) called ∙ c.requires.served in
    let no : None ≡ Some _ = sym none ∙ lacks in
    absurd cc

pub unreachable-requires-in-Err-Answer : goal.unreachable-requires-in-Err-Answer
unreachable-requires-in-Err-Answer g c =
    let is : c.in_ok-first.first ≡ take c.args.count c.args.log.now = c.in_ok-first.ensures in
    let fails = rw (is, c.in-Err-Answer.field-0-is) at c.in-Err-Answer.ensures.err in
    first_replays g.M.Meaning.means c.args.base.now c.args.log.now c.args.count _ c.requires.replayed fails.1

pub unreachable-requires-in-Err-Refuses : goal.unreachable-requires-in-Err-Refuses
unreachable-requires-in-Err-Refuses g c =
    let is : c.in_ok-first.first ≡ take c.args.count c.args.log.now = c.in_ok-first.ensures in
    let fails = rw (is, c.in-Err-Refuses.field-0-is) at c.in-Err-Refuses.ensures.err in
    first_replays g.M.Meaning.means c.args.base.now c.args.log.now c.args.count _ c.requires.replayed fails.1

pub unreachable-requires-in-Err-NoSuch : goal.unreachable-requires-in-Err-NoSuch
unreachable-requires-in-Err-NoSuch g c =
    let is : c.in_ok-first.first ≡ take c.args.count c.args.log.now = c.in_ok-first.ensures in
    let fails = rw (is, c.in-Err-NoSuch.field-0-is) at c.in-Err-NoSuch.ensures.err in
    first_replays g.M.Meaning.means c.args.base.now c.args.log.now c.args.count _ c.requires.replayed fails.1
