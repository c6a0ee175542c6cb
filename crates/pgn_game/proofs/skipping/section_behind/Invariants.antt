use Rattle.pgn_game.proofs.Words.{◌≡◌, ◌-◌, ◌^◌}
use Rattle.pgn_game.specs.steps.SkippingSteps.{SearchSoFar}
use Rattle.pgn_game.proofs.skipping.section_behind.Given as goal

abbrev pub invariant-loop-search : goal.invariant-loop-search
invariant-loop-search g l =
    record {
      text : g.R.Source.text l.source ≡ g.R.Source.text l.fn.source;
      failures : g.R.Source.failures l.source ≡ g.R.Source.failures l.fn.source;
      so : SearchSoFar (g.R.Source.text l.fn.source) l.begin l.fault l.place l.search (g.R.Source.left l.source);
    }

abbrev pub decreases-loop-search : goal.decreases-loop-search
decreases-loop-search g l = 2 ^ 62 - l.place
