use Rattle.std.proofs.Common.{◌≡◌, ap, inl, inr, refl, ◌∙◌, arith}
use Rattle.slab.proofs.SlabLemmas.{Contains-cons, Contains-cons_cases, Contains-entries}
use Rattle.vx_handles.specs.OpenHandles.{key_of}
use Rattle.vx_handles.proofs.handles.place_of.Goals.{else-entry-session-via-then-entry-session+else-entry-handle, else-entry-session-via-else-entry-session}
use Rattle.vx_handles.proofs.handles.place_of.Goals as goal

pub loop-place-init : goal.loop-place-init
loop-place-init c =
    let left = c.into_iter-place-iterator.ensures.into_iter_gives ∙ c.iter-place-items.ensures.rest in (
      tt,
      tt,
      λ place entry found _. rw left ((Contains-entries c.args.entries.now place entry).1 found),
      λ place entry there. (Contains-entries c.args.entries.now place entry).0 (rw left at there),
    )

pub returns-then-entry-handle-clause-found : goal.returns-then-entry-handle-clause-found
returns-then-entry-handle-clause-found c = (
  c.loop-place.invariant.3 c.in-Some.place c.in-Some.entry.now (rw c.in-Some.ensures.steps (0, omega arith, refl)),
  λ i. (c.if-entry-session.true i, c.if-entry-handle.true i),
)

pub loop-place-preserved : goal.loop-place-preserved
loop-place-preserved c =
    let at = c.in-Some.ensures.steps in (
      tt,
      tt,
      λ place entry found key. elim (Contains-cons_cases _ _ _ (rw at at (c.loop-place.invariant.2 place entry found key))) [
        | inl same ↦
            let here : key_of c.in-Some.entry.now ≡ (c.args.session, c.args.handle) = ap (λ e. key_of e.1) same ∙ key in
            elim c.else-entry-session.branch [
              | else-entry-session-via-then-entry-session+else-entry-handle w ↦ absurd (w.if-entry-handle.false (ap (λ k. k.1) here))
              | else-entry-session-via-else-entry-session w ↦ absurd (w.if-entry-session.false (ap (λ k. k.0) here))
            ]
        | inr rest ↦ rest
      ],
      λ place entry there. c.loop-place.invariant.3 place entry (rw at (Contains-cons _ _ _ there)),
    )
