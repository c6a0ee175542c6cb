-- The line of the game just finished.
use Rattle.pgn_tool.proofs.Words.{◌≡◌, ℕ, [], Option, None, Some, codes, decimal, unwrap_or, option_map, Profile, exported, FinishedGame, finished_game_line, six_fields, result_for, rules}
use Rattle.chess_rules.specs.declared.position.Parts.{Parts}
use Rattle.chess_text.specs.Fen.{fen_text}
use Rattle.pgn_game.specs.games.Pairs.{value_of}

-- the line of the game just finished, by the answers of a converter
pub line_told : (o : Option FinishedGame) (number : ℕ) (by : Profile) (p : Parts) → Some p ≡ option_map (λ finished. finished.position) o
    → elim o [ None ↦ [] | Some finished ↦ finished_game_line number by finished ]
    ≡ six_fields (decimal number) (unwrap_or
    (elim o [ None ↦ None | Some finished ↦ value_of (exported by.mode (result_for by.missing_result finished.marker) finished.pairs) (codes "White") ]) [])
    (unwrap_or
    (elim o [ None ↦ None | Some finished ↦ value_of (exported by.mode (result_for by.missing_result finished.marker) finished.pairs) (codes "Black") ]) [])
    (unwrap_or
    (elim o [ None ↦ None | Some finished ↦ value_of (exported by.mode (result_for by.missing_result finished.marker) finished.pairs) (codes "Result") ]) [])
    (decimal (elim o [ None ↦ 0 | Some finished ↦ finished.plies ])) (fen_text p)
unfolding finished_game_line
line_told o number by p e = search (rules, codes)
