-- A token takes nothing back: what stands written of a game begins what stands written of it a
-- token later.
use Rattle.pgn_game.proofs.Words.{Kind, Mode, Stage, InMovetext, Profile, Missing, counts_as, takes_the_marker, Pair, Item, Part, ◌≡◌, ℕ, List, [], ◌∷◌, ◌++◌, length, drop, None, Some, refl, sym, ap, subst, ◌∙◌, append_assoc, drop-append_seam, start_of, marker_of, tag_section, tokens_out, torn, going, whole, next, next_in, items_of, text_next, IsPrefix, lines_of, text_of as text_of_lines, rules}
use Rattle.pgn_game.proofs.putting.ItemsAppended.{full_text_grows, full_text_marker}

pub behind : (xs ys zs : List ℕ) → IsPrefix ys zs → IsPrefix (xs ++ ys) (xs ++ zs)
behind xs ys zs h = (h.0, ap (λ l. xs ++ l) h.1 ∙ sym (append_assoc xs ys h.0))

module _ (tags deepest : ℕ) (mode : Mode) (ps : List Pair) (name : List ℕ) (items : List Item) where
  abbrev profile : Missing → Profile
  profile missing = record { tags = tags; depth = deepest; mode = mode; missing_result = missing }

  abbrev part : Stage → Part
  part stage = record { stage = stage; pairs = ps; name = name; items = items }

  abbrev Grows : Missing → Stage → Kind → Type 0
  Grows missing stage k = IsPrefix (torn (profile missing) (part stage)) (text_next (profile missing) (next_in stage (part stage) k))

  in_movetext_grows : (text : List ℕ) (k : Kind) → Grows (counts_as text) InMovetext k
  in_movetext_grows text k =
      elim (marker_of k)
      as (λ o. IsPrefix (torn (profile (counts_as text)) (part InMovetext)) (text_next (profile (counts_as text)) (elim o [
        | Some marker ↦ whole (record { pairs = ps; items = items; marker = marker })
        | None ↦ going (record { stage = InMovetext; pairs = ps; name = name; items = items ++ items_of (part InMovetext) k })
      ]))) [
        | Some marker ↦ subst (IsPrefix (torn (profile (counts_as text)) (part InMovetext)))
            (sym (append_assoc (tag_section mode text ps)
            (text_of_lines (lines_of (tokens_out mode (start_of ps) items ++ marker ∷ []))) (10 ∷ [])))
            (behind (tag_section mode text ps) _ _ (full_text_marker mode (start_of ps) items marker))
        | None ↦ behind (tag_section mode text ps) _ _ (full_text_grows mode (start_of ps) items (items_of (part InMovetext) k))
      ]

  stage_grows : (missing : Missing) (stage : Stage) (k : Kind) → Grows missing stage k
  stage_grows takes_the_marker stage k = (_, refl)
  stage_grows (counts_as text) InMovetext k = in_movetext_grows text k
  stage_grows (counts_as text) _ k = (_, refl)

module _ (p : Profile) (part : Part) (k : Kind) where
  pub next_grows : IsPrefix (torn p part) (text_next p (next part k))
  next_grows = stage_grows p.tags p.depth p.mode part.pairs part.name part.items p.missing_result part.stage k

  -- so it is what stands written and the rest
  pub next_is : text_next p (next part k) ≡ torn p part ++ drop (length (torn p part)) (text_next p (next part k))
  next_is = search (rules, next_grows, drop-append_seam)
