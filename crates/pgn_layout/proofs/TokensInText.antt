-- The text of lines is their tokens, each with the byte after it.
use Rattle.pgn_layout.proofs.Words.{common_steps, arith, ◌≡◌, ℕ, List, [], ◌∷◌, ◌++◌, map, refl, ap, ◌∙◌, append_assoc, append-nil, Line, spaced, text_on, tokens_over, lines_from, text_of, IsTextOf, no_token, next_token, LinesKeepTokens, LinesOfKeepTokens}
use Rattle.pgn_layout.proofs.LinesOfTokens.{alone, grown, parts_from, text_on-grown, in_order}

-- a line with its LF, before the text of the lines after it
line_text : (t : List ℕ) (ts more : List (List ℕ)) (s : List ℕ) → IsTextOf more s
    → IsTextOf (t ∷ (ts ++ more)) (((t ++ spaced ts) ++ 10 ∷ []) ++ s)
line_text t [] more s h =
    let joined : ((t ++ []) ++ 10 ∷ []) ++ s ≡ t ++ 10 ∷ s =
    ap (λ l. (l ++ 10 ∷ []) ++ s) (append-nil t) ∙ append_assoc t (10 ∷ []) s in
    rw joined (next_token t 10 more s refl h)
line_text t (u ∷ us) more s h =
    let rest = ((u ++ spaced us) ++ 10 ∷ []) ++ s in
    let joined : ((t ++ 32 ∷ (u ++ spaced us)) ++ 10 ∷ []) ++ s ≡ t ++ 32 ∷ rest =
    ap (λ l. l ++ s) (append_assoc t (32 ∷ (u ++ spaced us)) (10 ∷ []))
    ∙ append_assoc t ((32 ∷ (u ++ spaced us)) ++ 10 ∷ []) s in
    rw joined
    (next_token t 32 (u ∷ us ++ more) rest refl (line_text u us more s h))

parts_text : (parts : List Line) → IsTextOf (tokens_over parts) (text_of (map text_on parts))
parts_text [] = no_token
parts_text (l ∷ ls) = grind (arith, common_steps, line_text, parts_text ls)

pub lines_keep_tokens : LinesKeepTokens
lines_keep_tokens tokens lines h = grind (arith, common_steps, parts_text)

-- the lines that are computed, part by part
texts_from : (l : Line) (ts : List (List ℕ)) → map text_on (parts_from l ts) ≡ lines_from (text_on l) ts
texts_from l [] = refl
texts_from l (t ∷ ts) = grind (arith, common_steps, append-nil, text_on-grown, texts_from (grown l t) ts, texts_from (alone t) ts)

pub lines_of_keep_tokens : LinesOfKeepTokens
lines_of_keep_tokens [] = no_token
lines_of_keep_tokens (t ∷ ts) =
    let parts = parts_from (alone t) ts in
    let texts : map text_on parts ≡ lines_from t ts =
    texts_from (alone t) ts ∙ ap (λ s. lines_from s ts) (append-nil t) in
    rw texts at
    (rw (in_order (alone t) ts) at
    (parts_text parts))
