use Rattle.std.proofs.Common.{[], subst, sym}
use Rattle.ref_tx.specs.Inner.{AreAnswers}
use Rattle.ref_tx.specs.Own.{IsTabled}
use Rattle.ref_tx.proofs.Grown.{kept_more}
use Rattle.ref_tx.proofs.Kept.{all_kept}
use Rattle.ref_tx.proofs.transactions.Tx.record.Goals as goal

pub invariant_of-self-2 : goal.invariant_of-self-2
invariant_of-self-2 g c =
    let t = c.self.inside in
    let is = kept_more c.push.result g.M.Meaning.means c.args.self.now t.read_point (g.S.Beginning.values t.began) t.dones c.push.new.self t.sends t.tally t.agents c.make_place.new.self c.args.r c.args.op c.args.value c.in_ok-answer.answer (sym c.self.view_is) c.self.invariant.0 (subst (λ l. IsTabled g.M.Meaning.means (g.S.Beginning.values t.began) l c.make_place.new.self) c.as_slice.ensures (c.make_place.ensures g.M.Meaning.means (g.S.Beginning.values t.began)
    (subst (AreAnswers g.M.Meaning.means (g.S.Beginning.values t.began) []) (sym c.as_slice.ensures) c.self.invariant.0.answered)
    (subst (λ l. IsTabled g.M.Meaning.means (g.S.Beginning.values t.began) l t.table) (sym c.as_slice.ensures) c.self.invariant.1))) c.requires.allowed c.requires.answer c.in_ok-answer.ensures c.push.ensures.ok c.push.ensures.err in
    (is.0, is.1, all_kept (g.S.Beginning.values t.began) (g.S.Beginning.start_at t.began) c.push.new.self (g.met.S.Readable.has_all t.began), c.self.invariant.3)
