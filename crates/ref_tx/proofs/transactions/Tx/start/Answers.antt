use Rattle.ref_tx.proofs.Grown.{begun}
use Rattle.ref_tx.proofs.Kept.{all_kept}
use Rattle.ref_tx.proofs.transactions.Tx.start.Goals as goal

pub invariant_of-result : goal.invariant_of-result
invariant_of-result g c =
    let began = g.S.Beginning.values c.args.began in
    let is = begun g.M.Meaning.means began c.none.result c.args.tally c.empty.result c.none.ensures (c.empty.ensures g.M.Meaning.means began) in
    (is.0, is.1, all_kept began (g.S.Beginning.start_at c.args.began) c.none.result (g.met.S.Readable.has_all c.args.began), c.requires)
