-- The steps of a shelf: how many items are to be drawn, and what a turn may rely on.
use Rattle.std.specs.Prelude.{ℕ, ◌+◌, ◌*◌, ◌/◌, ◌<◌, ◌≤◌, ◌≡◌, Bool, List, [], ◌∷◌, leb, ltb, eqb, length, get_or, set, Result, Ok, Err}
use borrow.Rule.Slice.PartMut.{put_mid}
use Rattle.lists.specs.Lists.{pick, both}
use Rattle.macroblock.specs.Reply.{done, wrong_length, number}
use Rattle.macroblock.specs.declared.reply.Refusal.{Refusal}
use Rattle.reconstruct.specs.Answers.{MbAnswer}
use Rattle.drawing.specs.Drawn.{planes_of}
use Rattle.shelf_items.specs.Shelf.{lengths_fit}

-- how many items are to be drawn, and the reply of the whole call
pub record Plan : Type 0 where
  pub items : ℕ
  pub reply : ℕ

-- what a beginning tells: all n items, or none beside the refusal's number
abbrev pub told : ℕ → Result (Unit {0}) Refusal → Plan
told n (Ok u) = record { items = n; reply = done }
told n (Err e) = record { items = 0; reply = number e }

-- all items where every list fits them, else none
abbrev pub plan_if : Bool → ℕ → Plan
plan_if fit n = pick fit (record { items = n; reply = done }) (record { items = 0; reply = wrong_length })

unfoldable pub planned : ℕ → ℕ → ℕ → ℕ → ℕ → ℕ → Plan
planned n subs coeffs out replies clipped = plan_if (lengths_fit n subs coeffs out replies clipped) n

-- the count before the first item
unfoldable pub begun : ℕ → ℕ → ℕ → ℕ → ℕ → List ℕ → List ℕ
begun n subs coeffs out replies clipped = pick (lengths_fit n subs coeffs out replies (length clipped)) (0 ∷ []) clipped

-- item i has its places, and the count of the items before it is at most 384 an item
pub record Ready (i out replies : ℕ) (clipped : List ℕ) : Type 0 where
  pub planes : 384 * i + 384 ≤ out
  pub reply : i < replies
  pub place : length clipped ≡ 1
  pub counted : get_or clipped 0 0 ≤ 384 * i

-- what item i, drawn as r, makes of the three lists: its planes and its reply stand in their places, and its count is added
abbrev pub Put : ℕ → MbAnswer → List ℕ → List ℕ → List ℕ → List ℕ → List ℕ → List ℕ → Type 0
Put i r out replies clipped out' replies' clipped' =
    (out' ≡ put_mid (384 * i) 384 out (planes_of r)) × (replies' ≡ set replies i r.reply) × (clipped' ≡ (get_or clipped 0 0 + r.clipped) ∷ [])

-- whether item i has its place in every list, and the count before it is one that i items can have
unfoldable pub has_place : ℕ → ℕ → ℕ → ℕ → ℕ → List ℕ → Bool
has_place i subs coeffs out replies clipped =
    both (ltb i (subs / 16))
    (both (ltb i (coeffs / 400)) (both (ltb i (out / 384)) (both (ltb i replies) (both (eqb (length clipped) 1) (leb (get_or clipped 0 0) (384 * i))))))

-- the same where b holds, else nothing
abbrev pub PutIf : Bool → ℕ → MbAnswer → List ℕ → List ℕ → List ℕ → List ℕ → List ℕ → List ℕ → Type 0
PutIf b i r out replies clipped out' replies' clipped' =
    (out' ≡ pick b (put_mid (384 * i) 384 out (planes_of r)) out)
    × (replies' ≡ pick b (set replies i r.reply) replies)
    × (clipped' ≡ pick b ((get_or clipped 0 0 + r.clipped) ∷ []) clipped)
