use Rattle.pgn_game.proofs.Words.{◌≡◌, ◌≤◌, true, waiting}
use Rattle.pgn_game.specs.public.ItemsCalls.{tokens_ahead}
use Rattle.pgn_game.specs.steps.ItemsSteps.{AreGoing, ReadRestSoFar}
use Rattle.pgn_game.proofs.items.Items.next_at_end.Given as goal

abbrev pub invariant-loop-fault : goal.invariant-loop-fault
invariant-loop-fault g l =
    record {
      going : AreGoing l.self;
      all : l.self.has_read_all ≡ true;
      rest : ReadRestSoFar l.fn.self l.self;
      ahead : tokens_ahead l.self.lexer ≤ tokens_ahead l.fn.self.lexer;
    }

abbrev pub decreases-loop-fault : goal.decreases-loop-fault
decreases-loop-fault g l = waiting l.self.lexer
