-- Releases, answers and the unmounting touch no file.
use Rattle.std.specs.Prelude.{◌==◌}
use Rattle.std.proofs.Common.{◌≡◌, ◌≤◌, ℕ, Bool, true, false, ◌&&◌, List, [], ◌∷◌, ◌++◌, length, Ok, Err, refl, sym, ◌∙◌, ap, subst, arith}
use Rattle.std.proofs.lemmas.List.{take_all}
use Rattle.vx_base.specs.declared.event.Event.{Event}
use Rattle.vx_base.specs.declared.event.Event.TheVariants as event
use Rattle.vx_base.specs.declared.refusal.Refusal.{Refusal}
use Rattle.vx_base.specs.declared.reply.Reply.{Reply}
use Rattle.vx_base.specs.declared.reply.Reply.TheVariants as say
use Rattle.vx_model.specs.LaidOut.{IsOnceUsed}
use Rattle.vx_model.specs.Layout.{Layout, kept_pending, released}
use Rattle.vx_model.specs.Legal.{World, after, after_all, with_released}
use Rattle.vx_model.specs.Outcome.{Maybe}
use Rattle.vx_model.specs.State.{State}
use Rattle.vx_model.specs.Tree.{File}
use Rattle.vx_bytes.specs.Events.{IsSameFile, IsUnpromising, IsUntouched}
use Rattle.vx_bytes.specs.Histories.{state_at, present}
use Rattle.vx_bytes.specs.Promises.{file_in}
use Rattle.vx_bytes.specs.BlockUse.{AreSpaces, UsesBlocks}
use Rattle.vx_bytes.proofs.AllFiles.{same_made}
use Rattle.vx_bytes.proofs.BlockTurns.{uses_released}

after_all-push : (o : World) (h : List Event) (e : Event) → after_all o (h ++ e ∷ []) ≡ after (after_all o h) e
after_all-push o [] e = refl
after_all-push o (x ∷ xs) e = after_all-push (after o x) xs e

pub present_is : (o : World) (h : List Event) → present o h ≡ (after_all o h).state
unfolding state_at
present_is o h = ap (λ (l : List Event). (after_all o l).state) (take_all (length h) h (omega arith))

-- the state after one event more
pub present_next : (o : World) (h : List Event) (e : Event) → present o (h ++ e ∷ []) ≡ (after (after_all o h) e).state
present_next o h e = present_is o (h ++ e ∷ []) ∙ ap (λ (w : World). w.state) (after_all-push o h e)

release_is : (o : World) (h : List Event) (at upto : ℕ) → present o (h ++ event.Release at upto ∷ []) ≡ with_released (present o h) upto
release_is o h at upto = present_next o h (event.Release at upto) ∙ ap (λ (s : State). with_released s upto) (sym (present_is o h))

once_released : (l : Layout) (upto : ℕ) → IsOnceUsed l → IsOnceUsed (released l upto)
once_released l upto once = record {
  once = once.once;
  apart = once.apart;
  data_blocks = once.data_blocks;
  not_pending = λ n b owns. ap (kept_pending upto) (once.not_pending n b owns);
  low = once.low;
}

itself : (f : Maybe File) → IsSameFile f f
itself (Ok f) = refl
itself (Err why) = tt

untouched_released : (s : State) (upto n : ℕ) → IsUntouched s (with_released s upto) n
untouched_released s upto n = record { file = itself (file_in s n); placed = λ p. refl; sectors = λ p. refl; size = refl }

pub release_untouched : (o : World) (h : List Event) (at upto n : ℕ) → IsUntouched (present o h) (present o (h ++ event.Release at upto ∷ [])) n
release_untouched o h at upto n = subst (λ (s : State). IsUntouched (present o h) s n) (sym (release_is o h at upto)) (untouched_released (present o h) upto n)

pub uses_release : (o : World) (h : List Event) (at committed closing : ℕ) → committed ≤ closing → closing ≤ length h → UsesBlocks o h committed closing → UsesBlocks o (h ++ event.Release at committed ∷ []) committed closing
uses_release o h at committed closing order low uses =
    let is = release_is o h at committed in
    uses_released o h (event.Release at committed) committed closing (omega (arith, order, low)) low order is
    (λ n. same_made (file_in (present o h) n) (file_in (present o (h ++ event.Release at committed ∷ [])) n) (release_untouched o h at committed n).file)
    (subst (λ (s : State). IsOnceUsed s.layout) (sym is) (once_released (present o h).layout committed uses.once))
    (subst AreSpaces (sym is) uses.spaces) uses

-- ---- events that leave the state

state_stays : (o : World) (h : List Event) (e : Event) → (after (after_all o h) e).state ≡ (after_all o h).state → (n : ℕ) → IsUntouched (present o h) (present o (h ++ e ∷ [])) n
state_stays o h e same n =
    subst (λ (s : State). IsUntouched (present o h) s n) (present_is o h ∙ sym same ∙ sym (present_next o h e)) (record { file = itself (file_in (present o h) n); placed = λ p. refl; sectors = λ p. refl; size = refl })

pub answer_untouched : (o : World) (h : List Event) (at place : ℕ) (answer : Reply) (n : ℕ) → IsUntouched (present o h) (present o (h ++ event.Ret at place answer ∷ [])) n
answer_untouched o h at place answer n = state_stays o h (event.Ret at place answer) refl n

pub unmounting_untouched : (o : World) (h : List Event) (at n : ℕ) → IsUntouched (present o h) (present o (h ++ event.Unmounted at ∷ [])) n
unmounting_untouched o h at n = state_stays o h (event.Unmounted at) refl n

pub release_unpromising : (at upto : ℕ) → IsUnpromising (event.Release at upto)
release_unpromising at upto = record { silent = λ i. refl; mounted = refl }

pub refusal_unpromising : (at place : ℕ) (why : Refusal) → IsUnpromising (event.Ret at place (say.Refused why))
refusal_unpromising at place why = record { silent = λ i. and-false (place == i); mounted = refl }
  where
    and-false : (b : Bool) → (b && false) ≡ false
    and-false true = refl
    and-false false = refl
