use Rattle.std.proofs.Common.{ℕ, List, Bool}
use Rattle.spv_table.specs.Table.{Table}
use Rattle.spv_extended.specs.declared.reach.Reach.{Reach}
use Rattle.spv_commands.specs.Show.{IsShowing}
use Rattle.spv_commands.proofs.Showings.{SameShowing}
use Rattle.spv_commands.proofs.Showings as showings
use Rattle.spv_commands.proofs.laws.one_showing.Goals as goal

pub returns : goal.returns
returns c =
    let one : (G : Table) (reach : Reach) (bytes o p : List ℕ) (a b : Bool) → IsShowing G reach bytes o a
    → IsShowing G reach bytes p b
    → SameShowing o p a b =
    showings.one_showing (record {
      words = c.one_word_list.ensures.order;
      once = c.one_refusal.ensures.once;
      never = c.one_refusal.ensures.never;
      death = c.one_death.ensures;
      alive = c.listed_or_dead.ensures;
      list = c.one_listing.ensures;
    }) c.one_shown.ensures
    in
    record {
      output = λ G reach bytes o p a b x y. (one G reach bytes o p a b x y).output;
      answer = λ G reach bytes o p a b x y. (one G reach bytes o p a b x y).answer;
    }
