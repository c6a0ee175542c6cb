use Rattle.pgn_game.proofs.Words.{◌≡◌, ◌^◌, ◌≤◌, false}
use Rattle.pgn_game.specs.public.ItemsCalls.{tokens_ahead}
use Rattle.pgn_game.specs.steps.ItemsSteps.{AreGoing, HasReadSoFar}
use Rattle.pgn_game.proofs.items.Items.read_item.Given as goal

abbrev pub invariant-loop-fault : goal.invariant-loop-fault
invariant-loop-fault g l =
    record {
      going : AreGoing l.self;
      more : l.self.has_read_all ≡ false;
      short : l.self.lexer.count ≤ 2 ^ 62;
      ahead : tokens_ahead l.self.lexer ≤ tokens_ahead l.fn.self.lexer;
      failures : g.R.Source.failures l.source ≡ g.R.Source.failures l.fn.source;
      text : g.R.Source.text l.source ≡ g.R.Source.text l.fn.source;
      reads : HasReadSoFar l.fn.self l.self (g.R.Source.left l.fn.source) (g.R.Source.left l.source);
    }

abbrev pub decreases-loop-fault : goal.decreases-loop-fault
decreases-loop-fault g l = tokens_ahead l.self.lexer
