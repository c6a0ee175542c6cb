-- The files of a split hold the export texts of the games.
use Rattle.pgn_tool.proofs.Words.{◌≡◌, ◌∙◌, ℕ, ◌+◌, List, [], ◌∷◌, ◌++◌, length, Option, Some, refl, sym, ap, arith, append_assoc, append-nil, length-append, Appends, append_cancel_left, one_more, Token, Game, start_of, tag_section, result_for, game_text, text_of, tokens_out, due, read, GameFile, list_profile, FileStep, IsBegun, added, bytes_in, closed, failures_in, file_steps, made, number_after, whole_files, torn_file, torn_text, common_steps}

-- ---- logs

-- a log with a further part, which is known if the log is reported
pub log_on : (before log after : Option (List FileStep)) (xs ys zs : List FileStep) → log ≡ added before xs → after ≡ added log ys
    → ((b : List FileStep) → before ≡ Some b → ys ≡ zs) → after ≡ added before (xs ++ zs)
log_on before log after xs ys zs first more same = grind (arith, common_steps, append_assoc)

pub whole_and_one : (n : ℕ) (texts : List (List ℕ)) (text : List ℕ)
    → whole_files n texts ++ made (one_more (number_after n texts)) ∷ closed (Some text) 0 ∷ [] ≡ whole_files n (texts ++ text ∷ [])
whole_and_one n [] text = refl
whole_and_one n (t ∷ texts) text = ap (λ l. made (one_more n) ∷ closed (Some t) 0 ∷ l) (whole_and_one (one_more n) texts text)

-- the number of the next file, by how many there are
pub number_is : (n count : ℕ) (texts : List (List ℕ)) → count ≡ n + length texts → one_more count ≡ one_more (number_after n texts)
number_is n count [] is = ap one_more (omega arith)
number_is n count (t ∷ texts) is = omega arith ∙ number_is (one_more n) _ texts refl

-- ---- texts

text_and_one : (gs : List Game) (g : Game) → text_of list_profile (gs ++ g ∷ []) ≡ text_of list_profile gs ++ game_text list_profile g
text_and_one [] g = append-nil (game_text list_profile g)
text_and_one (h ∷ gs) g = grind (arith, common_steps, append_assoc, (text_and_one gs g))

-- where all that is due is the text of games, none is begun
pub none_torn : (ts : List Token) → due list_profile ts ≡ text_of list_profile (read list_profile ts).progress.games → torn_text ts ≡ []
none_torn ts whole =
    let games = text_of list_profile (read list_profile ts).progress.games in
    append_cancel_left games (torn_text ts) [] (whole ∙ sym (append-nil games))

-- what tokens add behind whole games: it is written of a game that they begin, or is the text of
-- the one that they finish
module _ (given ts : List Token) (text : List ℕ) (none : torn_text given ≡ [])
    (more : due list_profile ts ≡ due list_profile given ++ text) where
  abbrev earlier : List ℕ
  earlier = text_of list_profile (read list_profile given).progress.games

  behind : due list_profile ts ≡ earlier ++ text
  behind = more ∙ ap (λ l. (earlier ++ l) ++ text) none ∙ ap (λ l. l ++ text) (append-nil earlier)

  pub torn_is : (read list_profile ts).progress.games ≡ (read list_profile given).progress.games → torn_text ts ≡ text
  torn_is same = append_cancel_left earlier (torn_text ts) text (ap (λ gs. text_of list_profile gs ++ torn_text ts) (sym same) ∙ behind)

  pub game_is : (g : Game) → (read list_profile ts).progress.games ≡ (read list_profile given).progress.games ++ g ∷ []
      → due list_profile ts ≡ text_of list_profile (read list_profile ts).progress.games → game_text list_profile g ≡ text
  game_is g one whole = grind (arith, common_steps, append_cancel_left, game_text, list_profile, text_and_one, read, text_of, behind)

some_byte : (xs ys : List ℕ) → [] ≡ xs ++ ys ++ 10 ∷ [] → ⊥
some_byte xs ys e = grind (arith, common_steps, length, length-append)

-- the file of a text that has bytes
torn_made : (n : ℕ) (text : List ℕ) → ([] ≡ text → ⊥) → torn_file n text ≡ made (one_more n) ∷ closed (Some text) 0 ∷ []
torn_made n text some = grind (arith, common_steps)

-- the file of a whole game
pub whole_file : (n : ℕ) (g : Game)
    → torn_file n (game_text list_profile g) ≡ made (one_more n) ∷ closed (Some (game_text list_profile g)) 0 ∷ []
whole_file n g = grind (arith, common_steps, torn_made, game_text, list_profile, some_byte, tag_section, result_for, tokens_out, start_of)

-- ---- the file of a game

pub taken_is : (o : Option (List ℕ)) (text : List ℕ) → Appends (Some []) o text → o ≡ Some text
taken_is o text wrote = grind (arith, common_steps)

-- it holds what was written, if no write failed
pub file_holds : {A : Type 0}
    → (taken : A → Option (List ℕ)) (failures : A → ℕ) (b : List FileStep) (n : ℕ) (file : GameFile A) (text : List ℕ)
    → IsBegun taken failures (Some b) file → failures_in failures file ≡ 0 → Appends (Some []) (bytes_in taken (Some b) file) text
    → file_steps taken failures (one_more n) file ≡ torn_file n text
file_holds taken failures b n file text begun clean wrote = grind (arith, common_steps, taken_is, torn_made)
