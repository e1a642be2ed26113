use Rattle.std.proofs.Common.{Ok, ◌∙◌, ap, slice_get, slice_set, sym}
use Rattle.std.proofs.lemmas.Result.{err_from_is_err_and}
use Rattle.ref_refs.specs.Commit.{refused}
use Rattle.ref_refs.proofs.Legal.{stepped_one, refused_one, others_stay, answered, ensure_keeps, ensured_answer, ensured_stays, made_of, there}
use Rattle.ref_refs.proofs.placing.place_one.Goals as goal

pub returns-clause-ok : goal.returns-clause-ok
returns-clause-ok g c = λ at.
    let values = c.args.refs.now.values in
    let d = c.args.done.now in
    let before = there values d.r c.requires.here in
    stepped_one g.M.Meaning.means c.args.is_free at d values before.0 c.in_ok-value.value before.1 (made_of g.M.Meaning.means d.op (slice_get values d.r) before.0 c.in_ok-value.value before.1 c.in_ok-value.ensures.ok) c.in_ok-value.ensures.answers
    ∙ ap Ok (sym c.in_ok-set.ensures.values)

pub returns-clause-others : goal.returns-clause-others
returns-clause-others g c = λ r other.
    ap (λ l. slice_get l r) c.in_ok-set.ensures.values ∙ others_stay c.args.refs.now.values c.args.done.now.r r c.in_ok-value.value other

pub returns-clause-answers : goal.returns-clause-answers
returns-clause-answers g c = λ protected.
    ap (λ l. slice_get l c.args.done.now.r) c.in_ok-set.ensures.values
    ∙ answered c.args.is_free c.args.refs.now.values c.args.done.now.r c.in_ok-value.value c.args.done.now.answer c.requires.here c.in_ok-value.ensures.answers protected

pub returns-clause-unrefused : goal.returns-clause-unrefused
returns-clause-unrefused g c = λ ds.
    let values = c.args.refs.now.values in
    let d = c.args.done.now in
    let before = there values d.r c.requires.here in
    refused_one g.M.Meaning.means d ds values before.0 c.in_ok-value.value before.1 (made_of g.M.Meaning.means d.op (slice_get values d.r) before.0 c.in_ok-value.value before.1 c.in_ok-value.ensures.ok)
    ∙ ap (refused g.M.Meaning.means ds) (sym c.in_ok-set.ensures.values)

pub returns-then-is_ensure-clause-ok : goal.returns-then-is_ensure-clause-ok
returns-then-is_ensure-clause-ok g c = λ at.
    let means = g.M.Meaning.means in
    let d = c.args.done.now in
    let values = c.args.refs.now.values in
    let before = there values d.r c.requires.here in
    let is = sym c.if-is_ensure.ensures in
    stepped_one means c.args.is_free at d values before.0 before.0 before.1 (ensure_keeps means d.op before.0 is) (λ protected. ensured_answer means d.op (slice_get values d.r) before.0 d.answer is before.1 (c.requires.kept protected))
    ∙ ap Ok (ensured_stays values d.r before.0 before.1)

pub returns-then-is_ensure-clause-unrefused : goal.returns-then-is_ensure-clause-unrefused
returns-then-is_ensure-clause-unrefused g c = λ ds.
    let means = g.M.Meaning.means in
    let d = c.args.done.now in
    let values = c.args.refs.now.values in
    let before = there values d.r c.requires.here in
    refused_one means d ds values before.0 before.0 before.1 (ensure_keeps means d.op before.0 (sym c.if-is_ensure.ensures))
    ∙ ap (refused means ds) (ensured_stays values d.r before.0 before.1)

pub returns-in_err-value-clause-fault : goal.returns-in_err-value-clause-fault
returns-in_err-value-clause-fault g c =
    let p = err_from_is_err_and c.from_residual.result c.from_residual.ensures.1 in
    rw (p.1, p.2) (λ n ds. c.in_err-value.ensures.fault n (λ v. refused g.M.Meaning.means ds (slice_set c.args.refs.now.values c.args.done.now.r v)))
