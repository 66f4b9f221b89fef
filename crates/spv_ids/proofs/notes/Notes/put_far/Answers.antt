use Rattle.std.proofs.Common.{sym, arith}
use Rattle.spv_ids.proofs.Noting.{put_ranked}
use Rattle.spv_ids.proofs.notes.Notes.put_far.Goals as goal

pub returns-in-Some : goal.returns-in-Some
returns-in-Some c = λ x.
    put_ranked c.args.self.now.near.items c.args.self.now.ranked.items c.args.self.now.ranks c.args.id c.args.number
    c.in-Some.rank x _ c.requires.past (sym c.in-Some.ensures) (omega (arith, c.len.ensures, c.if-rank-len.true))
