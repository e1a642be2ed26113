use Rattle.std.proofs.Common.{rules, ◌≡◌, Ok, Some, true, length, slice_get, refl}
use Rattle.std.proofs.lemmas.Option.{slice_get_read}
use Rattle.std.specs.Ordering.{eq_by_cmp}
use Rattle.ref_value.specs.Order.{edn_cmp}
use Rattle.ref_log.specs.Replay.{done_of, place}
use Rattle.ref_log.proofs.Kept.{goes_on}
use Rattle.ref_log.proofs.replay.apply_op.Goals as goal

-- src/replay.rt:141:1
pub returns-clause-ok : goal.returns-clause-ok
returns-clause-ok g c =
    let d = done_of c.args.number c.args.op.now c.args.answer.now in
    let there : slice_get c.args.values.now.items c.args.number ≡ Some c.index.result.now = slice_get_read c.args.values.now.items (length c.args.values.now.items) c.args.number c.index.result.now refl (search rules) (search rules) in
    let gives : place g.M.Meaning.means c.args.op.now c.index.result.now ≡ Ok c.in-Ok.value = search rules in
    let same : eq_by_cmp edn_cmp c.in-Ok.value c.args.answer.now ≡ true = search rules in
    let goes : c.in_ok-values.field-0 ≡ c.args.answer.now = search rules in
    goes_on g.M.Meaning.means c.args.is_free c.args.point d c.args.values.now.items c.index.result.now c.in-Ok.value c.in_ok-values.field-0 c.if-is_free.false there gives same goes
