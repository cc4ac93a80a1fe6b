-- The use of blocks through events, prefixes and releases.
use Rattle.std.proofs.Common.{◌≡◌, ◌≢◌, ◌≤◌, ℕ, false, List, [], ◌∷◌, ◌++◌, length, sym, inl, inr, subst, arith}
use Rattle.std.specs.Prelude.{Some}
use Rattle.vx_base.specs.declared.event.Event.{Event}
use Rattle.vx_model.specs.LaidOut.{IsOnceUsed}
use Rattle.vx_model.specs.Legal.{World, with_released}
use Rattle.vx_model.specs.State.{State}
use Rattle.vx_bytes.specs.Histories.{state_at, present, is_made, last_cut, last_made, last_shorter}
use Rattle.vx_bytes.specs.Places.{place_of, placed_in}
use Rattle.vx_bytes.specs.Promises.{file_in}
use Rattle.vx_bytes.specs.Standings.{IsApart, IsElsewhere}
use Rattle.vx_bytes.specs.Kept.{Progress, Sinces, memory}
use Rattle.vx_bytes.specs.BlockUse.{HasBlock, IsStillUsed, GivesUp, AreSpaces, UsesBlocks}
use Rattle.vx_bytes.proofs.Growing.{state_old}
use Rattle.vx_bytes.proofs.Cuts.{made_old, made_within, cut_by}
use Rattle.vx_bytes.proofs.Using.{alone_now, alone_was, made_before, elsewhere_of}
use Rattle.vx_bytes.proofs.GivingUp.{still_self, still_next, still_released}

module _ (o : World) (h : List Event) (e : Event) (committed closing : ℕ) (low : committed ≤ length h) (low_closing : closing ≤ length h) where
  abbrev h2 : List Event
  h2 = h ++ e ∷ []

  -- a file whose blocks stay on the device is not made or gone
  abbrev StaysMade : Type 0
  StaysMade = (n page b : ℕ) → HasBlock (present o h) n page b → HasBlock (present o h2) n page b → is_made (file_in (present o h) n) (file_in (present o h2) n) ≡ false

  made_same : StaysMade → (n page b : ℕ) → HasBlock (present o h) n page b → HasBlock (present o h2) n page b → last_made o h2 n ≡ last_made o h n
  made_same stays n page b was is = made_old o h e n (stays n page b was is)

  still_event : (k : ℕ) → k ≤ length h → GivesUp (present o h) (present o h2) (length h) → StaysMade → IsStillUsed (last_made o h) (state_at o h k) (present o h) k → IsStillUsed (last_made o h2) (state_at o h2 k) (present o h2) k
  still_event k le gives stays old =
      subst (λ (s : State). IsStillUsed (last_made o h2) s (present o h2) k) (sym (state_old o h e k le)) (still_next (last_made o h) (last_made o h2) (state_at o h k) (present o h) (present o h2) k (length h) le (made_same stays) gives old)

  -- an event that gives up only what waits for it
  pub uses_event : IsOnceUsed (present o h2).layout → AreSpaces (present o h2) → GivesUp (present o h) (present o h2) (length h) → StaysMade → UsesBlocks o h committed closing → UsesBlocks o h2 committed closing
  uses_event once spaces gives stays old = record {
    once = once;
    spaces = spaces;
    still = still_event committed low gives stays old.still;
    still_closing = still_event closing low_closing gives stays old.still_closing;
  }

  -- a release up to the committed prefix
  pub uses_released : committed ≤ closing → present o h2 ≡ with_released (present o h) committed → ((n : ℕ) → is_made (file_in (present o h) n) (file_in (present o h2) n) ≡ false) → IsOnceUsed (present o h2).layout → AreSpaces (present o h2) → UsesBlocks o h committed closing → UsesBlocks o h2 committed closing
  uses_released order is stays once spaces old = record {
    once = once;
    spaces = spaces;
    still = subst (λ (s : State). IsStillUsed (last_made o h2) s (present o h2) committed) (sym (state_old o h e committed low)) (made_anew (state_at o h committed) committed (subst (λ (s : State). IsStillUsed (last_made o h) (state_at o h committed) s committed) (sym is) (still_released (last_made o h) (state_at o h committed) (present o h) committed committed (omega arith) old.still)));
    still_closing = subst (λ (s : State). IsStillUsed (last_made o h2) s (present o h2) closing) (sym (state_old o h e closing low_closing)) (made_anew (state_at o h closing) closing (subst (λ (s : State). IsStillUsed (last_made o h) (state_at o h closing) s closing) (sym is) (still_released (last_made o h) (state_at o h closing) (present o h) closing committed order old.still_closing)));
  }
    where
      made_anew : (was : State) (from : ℕ) → IsStillUsed (last_made o h) was (present o h2) from → IsStillUsed (last_made o h2) was (present o h2) from
      made_anew was from still n page b there = elim (still n page b there) [
        | inl both ↦ inl (both.0, subst (λ (k : ℕ). k ≤ from) (sym (made_old o h e n (stays n))) both.1)
        | inr waits ↦ inr waits
      ]

-- where the pages that the event leaves may stand: apart from all that the three states before it have
pub apart_next : (o : World) (h : List Event) (e : Event) (p : Progress) (since : Sinces) (n : ℕ) → p.committed ≤ length h → p.closing ≤ length h → UsesBlocks o (h ++ e ∷ []) p.committed p.closing →
    IsStillUsed (last_made o (h ++ e ∷ [])) (present o h) (present o (h ++ e ∷ [])) (length h) → IsApart (placed_in (present o (h ++ e ∷ [])) n) (memory o h p since n)
apart_next o h e p since n low low_closing uses still = record {
  itself = alone_now (present o (h ++ e ∷ [])) uses.once uses.spaces n;
  committed = alone_was (present o (h ++ e ∷ [])) uses.once uses.spaces (last_made o (h ++ e ∷ [])) (state_at o h p.committed) p.committed (subst (λ (s : State). IsStillUsed (last_made o (h ++ e ∷ [])) s (present o (h ++ e ∷ [])) p.committed) (state_old o h e p.committed low) uses.still) n;
  closing = alone_was (present o (h ++ e ∷ [])) uses.once uses.spaces (last_made o (h ++ e ∷ [])) (state_at o h p.closing) p.closing (subst (λ (s : State). IsStillUsed (last_made o (h ++ e ∷ [])) s (present o (h ++ e ∷ [])) p.closing) (state_old o h e p.closing low_closing) uses.still_closing) n;
  present = alone_was (present o (h ++ e ∷ [])) uses.once uses.spaces (last_made o (h ++ e ∷ [])) (present o h) (length h) still n;
}

-- what the present state gives to pages, after the event
pub still_present : (o : World) (h : List Event) (e : Event) → GivesUp (present o h) (present o (h ++ e ∷ [])) (length h) → ((n page b : ℕ) → HasBlock (present o h) n page b → HasBlock (present o (h ++ e ∷ [])) n page b → is_made (file_in (present o h) n) (file_in (present o (h ++ e ∷ [])) n) ≡ false)
    → IsStillUsed (last_made o (h ++ e ∷ [])) (present o h) (present o (h ++ e ∷ [])) (length h)
still_present o h e gives stays = still_next (last_made o h) (last_made o (h ++ e ∷ [])) (present o h) (present o h) (present o (h ++ e ∷ [])) (length h) (length h) (omega arith) (λ n page b was is. made_old o h e n (stays n page b was is)) gives (still_self (last_made o h) (present o h) (length h) (made_within o h))

module _ (o : World) (h : List Event) (committed closing : ℕ) (uses : UsesBlocks o h committed closing) where
  pub uses_close : UsesBlocks o h committed (length h)
  uses_close = record { once = uses.once; spaces = uses.spaces; still = uses.still; still_closing = still_self (last_made o h) (present o h) (length h) (made_within o h) }

  pub uses_commit : UsesBlocks o h closing closing
  uses_commit = record { once = uses.once; spaces = uses.spaces; still = uses.still_closing; still_closing = uses.still_closing }

-- where a state is the present one in all three ways, each block serves one purpose
pub uses_all : (o : World) (h : List Event) → IsOnceUsed (present o h).layout → AreSpaces (present o h) → UsesBlocks o h (length h) (length h)
uses_all o h once spaces = record { once = once; spaces = spaces; still = still_self (last_made o h) (present o h) (length h) (made_within o h); still_closing = still_self (last_made o h) (present o h) (length h) (made_within o h) }

module _ (o : World) (h : List Event) (p : Progress) (uses : UsesBlocks o h p.committed p.closing) where
  -- a sector that one file has now is none of another's
  pub uses_foreign : (since : Sinces) (ino n q u : ℕ) → ino ≢ n → placed_in (present o h) ino q ≡ Some u → IsElsewhere u (memory o h p since n)
  uses_foreign since ino n q u other here = elsewhere_of o h p since ino n q u other uses.once uses.spaces uses.still uses.still_closing (still_self (last_made o h) (present o h) (length h) (made_within o h)) here

  -- A page may be put once the file's last smaller truncate is durable: where an earlier state has it in the same sector, the file was made
  -- before that state, so its last cut is too.
  pub cut_before : (ino q u : ℕ) → last_shorter o h ino ≤ p.committed → p.committed ≤ p.closing → placed_in (present o h) ino q ≡ Some u →
      ((place_of (state_at o h p.committed) ino).sectors q ≡ Some u → last_cut o h ino ≤ p.committed) × ((place_of (state_at o h p.closing) ino).sectors q ≡ Some u → last_cut o h ino ≤ p.closing)
  cut_before ino q u durable order here = (
    λ at. (let made : last_made o h ino ≤ p.committed = made_before (present o h) uses.once uses.spaces (last_made o h) (state_at o h p.committed) p.committed uses.still ino q u here at in omega (arith, made, cut_by o h ino, durable)),
    λ at. (let made : last_made o h ino ≤ p.closing = made_before (present o h) uses.once uses.spaces (last_made o h) (state_at o h p.closing) p.closing uses.still_closing ino q u here at in omega (arith, made, cut_by o h ino, durable, order)),
  )
