use Rattle.pgn_game.proofs.Words.{◌≡◌, ◌<◌, ◌≤◌, ◌-◌, length, drop, words_behind, bytes_between, words_from}
use Rattle.pgn_game.proofs.line_of_play.word_end.Given as goal

-- the bytes so far are of the word
abbrev pub invariant-loop-end : goal.invariant-loop-end
invariant-loop-end l =
    (l.begin < l.end) × (l.end ≤ length l.text)
    × (words_from l.text l.begin ≡ words_behind l.begin (bytes_between l.text l.begin l.end) (drop l.end l.text))

abbrev pub decreases-loop-end : goal.decreases-loop-end
decreases-loop-end l = length l.text - l.end
