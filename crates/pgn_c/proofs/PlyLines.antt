-- The lines of plies in a buffer, one after another.
use Rattle.pgn_c.proofs.Words.{◌≡◌, ℕ, ◌+◌, ◌<◌, ◌≤◌, List, [], ◌∷◌, ◌++◌, length, take, drop, sym, ap, ap₂, ◌∙◌, arith, append-nil, append_assoc, length-append, drop-drop, drop_at, take_at, length-drop, IsFilled, None, common_steps, Line, Ply, behind_ply}
use Rattle.pgn_c.specs.LinesOfPlay.{WritesLine, line_result, ply_line, ply_lines}
use Rattle.pgn_c.specs.declared.line_of_play.PgnPlies.{PgnPlies}
use Rattle.pgn_c.specs.declared.line_of_play.PlyFields.{PlyFields}

-- the line of a ply ends with a line feed
pub some_line : (fields : PlyFields) (x : Ply) → 0 < length (ply_line fields x)
some_line fields x = grind (arith, common_steps, length-append)

one_more_line : (fields : PlyFields) (xs : List Ply) (x : Ply) → ply_lines fields (xs ++ x ∷ []) ≡ ply_lines fields xs ++ ply_line fields x
one_more_line fields [] x = append-nil (ply_line fields x)
one_more_line fields (y ∷ xs) x = grind (arith, common_steps, append_assoc, (one_more_line fields xs x))

-- Of a line the first plies were put into the buffer, and this is ahead.
pub record PutSoFar (fields : PlyFields) (line ahead : Line) (before now : List ℕ) (written count : ℕ) : Type 0 where
  pub put : List Ply
  pub plies : line.plies ≡ put ++ ahead.plies
  pub fault : line.fault ≡ ahead.fault
  pub filled : IsFilled before now (ply_lines fields put)
  pub bytes : written ≡ length (ply_lines fields put)
  pub counted : count ≡ length put
  pub each : count ≤ written

module _ (fields : PlyFields) (line ahead : Line) (before now : List ℕ) (written count : ℕ) (so_far : PutSoFar fields line ahead before now written count) where
  abbrev lines : List ℕ
  lines = ply_lines fields so_far.put

  -- the buffer has the length that it had
  same_length : length now ≡ length before
  same_length = grind (arith, common_steps, length, length-append, length-drop)

  -- one more
  module _ (x : Ply) (rest : Line) (next : ahead ≡ behind_ply x rest) where
    buffer_now : (text : List ℕ) → text ≡ ply_line fields x → written + length text ≤ length now
        → take written now ++ text ++ drop (written + length text) now
        ≡ ply_lines fields (so_far.put ++ x ∷ []) ++ drop (length (ply_lines fields (so_far.put ++ x ∷ []))) before
    buffer_now text is fits =
        let rest = drop (length lines) before in
        let joined : ply_lines fields (so_far.put ++ x ∷ []) ≡ lines ++ text = one_more_line fields so_far.put x ∙ ap (λ (s : List ℕ). lines ++ s) (sym is) in
        let long : length (lines ++ text) ≡ written + length text = length-append lines text ∙ ap (λ (n : ℕ). n + length text) (sym so_far.bytes) in
        let front : take written now ≡ lines = ap (take written) so_far.filled.now ∙ take_at lines rest written (sym so_far.bytes) in
        let behind : drop written now ≡ rest = ap (drop written) so_far.filled.now ∙ drop_at lines rest written (sym so_far.bytes) in
        let back : drop (written + length text) now ≡ drop (written + length text) before =
        sym (drop-drop (length text) written now) ∙ ap (drop (length text)) (behind ∙ ap (λ (n : ℕ). drop n before) (sym so_far.bytes))
        ∙ drop-drop (length text) written before in
        ap₂ (λ (s t : List ℕ). s ++ text ++ t) front back
        ∙ ap (λ (n : ℕ). (lines ++ text) ++ drop n before) (sym long)
        ∙ ap (λ (s : List ℕ). s ++ drop (length s) before) (sym joined)

    pub one_more : (text : List ℕ) (new : List ℕ) → text ≡ ply_line fields x → 0 < length text → written + length text ≤ length now
        → new ≡ take written now ++ text ++ drop (written + length text) now
        → PutSoFar fields line rest before new (written + length text) (count + 1)
    one_more text new is some fits after = grind (arith, common_steps, one_more_line, length, length-append, append_assoc, same_length, buffer_now)

    -- the line of the next ply has no room
    pub no_room : (text : List ℕ) (result : PgnPlies) → text ≡ ply_line fields x → length now < written + length text
        → result ≡ line_result (x ∷ []) None written count → WritesLine fields line before now result
    no_room text result is full same = grind (arith, common_steps, same_length, length)
