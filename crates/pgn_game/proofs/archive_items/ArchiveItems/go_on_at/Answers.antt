use Rattle.pgn_game.proofs.Words.{refl}
use Rattle.pgn_game.proofs.SearchOfSource.{counts_on}
use Rattle.pgn_game.proofs.giving.CurrentFitsInMemory.{archive_fits_items}
use Rattle.pgn_game.proofs.archive_items.ArchiveItems.go_on_at.Goals as goal

pub restart_at-requires : goal.restart_at-requires
restart_at-requires g c = search archive_fits_items

pub returns : goal.returns
returns g c =
    rw (← c.self.view_is) (record {
      above = rw (← c.self.view_is) at c.requires.above;
      begin = refl;
      count = c.restart_at.ensures.count;
      no_fault = c.restart_at.ensures.no_fault;
      not_finished = c.restart_at.ensures.not_finished;
      games = rw (← c.self.view_is) at (counts_on _ _ _ c.games-self-inside.ensures c.restart_at.ensures.no_game);
      gives = λ left. c.restart_at.ensures.begins left;
    })
