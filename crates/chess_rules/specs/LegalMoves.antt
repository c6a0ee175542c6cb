-- **Definition**: the list of all legal moves of a position, each with the position after it.
use Rattle.std.specs.Prelude.{List, Option, map, option_map}
use Rattle.std.specs.List.{filter_map, flat_map}
use Rattle.chess_rules.specs.declared.position.Move.{Move}
use Rattle.chess_rules.specs.declared.position.Parts.{Parts}
use Rattle.chess_rules.specs.declared.position.Played.{Played}
use Rattle.chess_rules.specs.Square.{Square, squares}
use Rattle.chess_rules.specs.Legal.{every_promotion, legal}

-- the moves of a pair of squares: with no promotion, and with one to each kind
abbrev pub moves_between : Square → Square → List Move
moves_between from to = map (λ promotion. record { from = from; to = to; promotion = promotion }) every_promotion

-- every move from one of the 64 squares to one of the 64 squares
unfoldable pub every_move : List Move
every_move = flat_map (λ from. flat_map (moves_between from) squares) squares

-- the move and the position after it, if the move is legal
abbrev pub played : Parts → Move → Option Played
played p m = option_map (λ q. record { mv = m; next = q }) (legal p m)

-- those of the moves that are legal
unfoldable pub legal_among : Parts → List Move → List Played
legal_among p moves = filter_map (played p) moves

-- all legal moves
abbrev pub legal_moves : Parts → List Played
legal_moves p = legal_among p every_move
