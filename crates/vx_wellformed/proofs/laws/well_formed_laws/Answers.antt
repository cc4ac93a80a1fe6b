use Rattle.std.proofs.Common.{◌≡◌, ◌⊎◌, ℕ, true, List, [], Some, inl, inr, refl, sym, subst}
use Rattle.vx_base.specs.declared.call.Call.{Call}
use Rattle.vx_base.specs.declared.call.Call.TheVariants as calls
use Rattle.vx_sound.specs.Facts.{AreNamesRight}
use Rattle.vx_model.specs.Tree.{Tree}
use Rattle.vx_model.specs.Layout.{DirectoryBlock, Layout, blocks_at}
use Rattle.vx_model.specs.State.{State, Done}
use Rattle.vx_model.specs.Settling.{settle}
use Rattle.vx_model.specs.Step.{is_of_names, is_on_file, step}
use Rattle.vx_model.specs.Legal.{with_released}
use Rattle.vx_model.specs.LaidOut.{IsLaidOut, IsPlain, entries_of}
use Rattle.vx_model.specs.NameLaws.{HasNoLoops}
use Rattle.vx_wellformed.specs.WellFormed.{IsConsistent, IsWellFormed, HasMode, HasNames}
use Rattle.vx_wellformed.proofs.Calls.{Leaves, step_leaves}
use Rattle.vx_wellformed.proofs.Histories.{fresh_well_formed, kept_all, laid_event}
use Rattle.vx_wellformed.proofs.laws.well_formed_laws.Goals as goal

consistent_is : (s : State) → IsWellFormed s → IsConsistent s
consistent_is s w = record { laid_out = w.laid_out; names = w.names; links = w.links; no_loops = w.no_loops }

-- a call that does something is one of names, or on a file
either_kind : (s : State) (place session : ℕ) (call : Call) (done : Done) → step s place session call ≡ Some done → (is_of_names call ≡ true) ⊎ (is_on_file call ≡ true)
either_kind s place session (calls.Create path mode) done h = inl refl
either_kind s place session (calls.Mkdir path mode) done h = inl refl
either_kind s place session (calls.Unlink path) done h = inl refl
either_kind s place session (calls.Rmdir path) done h = inl refl
either_kind s place session (calls.Link old new) done h = inl refl
either_kind s place session (calls.Rename old new) done h = inl refl
either_kind s place session (calls.Chmod path mode) done h = inl refl
either_kind s place session (calls.Stat path) done h = inl refl
either_kind s place session (calls.List path) done h = inl refl
either_kind s place session (calls.OpenFile handle path flag) done h = inr refl
either_kind s place session (calls.Close handle) done h = inr refl
either_kind s place session (calls.Read handle offset count) done h = inr refl
either_kind s place session (calls.Write handle offset payload) done h = inr refl
either_kind s place session (calls.Truncate handle size) done h = inr refl
either_kind s place session (calls.Fsync handle) done h = inr refl
either_kind s place session calls.Sync done h = inl refl
either_kind s place session calls.Tick done h = inl refl
either_kind s place session (calls.After other lines) done h = inl refl
either_kind s place session calls.Stop done h = inl refl
either_kind s place session _ done h = absurd cc

blocks_named : (l new : Layout) → HasNames l → ((n : ℕ) → (blocks_at new n ≡ blocks_at l n) ⊎ (blocks_at new n ≡ [])) → HasNames new
blocks_named l new names same n = elim (same n) [
  | inl is ↦ subst (λ (bs : List DirectoryBlock). AreNamesRight [] (entries_of bs)) (sym is) (names n)
  | inr none ↦ subst (λ (bs : List DirectoryBlock). AreNamesRight [] (entries_of bs)) (sym none) tt
]

pub returns : goal.returns
returns c =
    let left : (s : State) (place session : ℕ) (call : Call) (done : Done) → IsConsistent s → is_of_names call ≡ true → step s place session call ≡ Some done → Leaves (IsPlain s) (HasMode call) done.state = λ s place session call done w names is.
    step_leaves c.edit_laws.ensures c.handles.ensures.closed c.plain_states.ensures.last c.unused_inodes.ensures.low c.unused_inodes.ensures.unused (IsPlain s) s
    (record { laid_out = w.laid_out; plain = λ p. p; names = w.names }) w.links place session call done names is in
    -- by what names or files the call is
    let laid : (s : State) (place session : ℕ) (call : Call) (done : Done) → IsConsistent s → HasMode call → step s place session call ≡ Some done → IsLaidOut done.state = λ s place session call done w mode is.
    elim (either_kind s place session call done is) [
      | inl names ↦ (left s place session call done w names is).laid_out mode
      | inr on ↦ c.keep_laws.ensures.laid_out s place session call done on w.laid_out is
    ] in
    let named : (s : State) (place session : ℕ) (call : Call) (done : Done) → IsConsistent s → step s place session call ≡ Some done → HasNames done.state.layout = λ s place session call done w is.
    elim (either_kind s place session call done is) [
      | inl names ↦ (left s place session call done w names is).names
      | inr on ↦ blocks_named s.layout done.state.layout w.names (c.keep_laws.ensures.blocks s place session call done on is)
    ] in
    let consistent : (s : State) (place session : ℕ) (call : Call) (done : Done) → IsConsistent s → IsLaidOut done.state → step s place session call ≡ Some done → IsConsistent done.state = λ s place session call done w there is. record {
      laid_out = there;
      names = named s place session call done w is;
      links = c.link_numbers.ensures.step s place session call done w.links is;
      no_loops = c.loops.ensures.step s w.links w.no_loops place session call done is;
    } in
    let steps : (s : State) (place session : ℕ) (call : Call) (done : Done) → IsWellFormed s → is_of_names call ≡ true → HasMode call → step s place session call ≡ Some done → IsWellFormed done.state = λ s place session call done w names mode is.
    let left_now = left s place session call done (consistent_is s w) names is in
    let now = consistent s place session call done (consistent_is s w) (left_now.laid_out mode) is in
    record {
      laid_out = now.laid_out;
      plain = left_now.plain w.plain;
      names = now.names;
      links = now.links;
      no_loops = now.no_loops;
    } in
    let settles : (s : State) (place ino : ℕ) → IsConsistent s → IsConsistent (settle s place ino) = λ s place ino w. record {
      laid_out = c.keep_laws.ensures.settled_laid_out s place ino w.laid_out;
      names = blocks_named s.layout (settle s place ino).layout w.names (λ n. inl (c.keep_laws.ensures.settled_blocks s place ino n));
      links = c.link_numbers.ensures.settled s place ino w.links;
      no_loops = subst (λ (t : Tree). HasNoLoops t.nodes) (sym (c.bytes_laws.ensures.settled s place ino)) w.no_loops;
    } in
    let releases : (s : State) (upto : ℕ) → IsWellFormed s → IsWellFormed (with_released s upto) = λ s upto w. record {
      laid_out = c.edit_laws.ensures.released s upto w.laid_out;
      plain = c.edit_laws.ensures.released_plain s upto w.plain;
      names = w.names;
      links = c.link_numbers.ensures.released s upto w.links;
      no_loops = w.no_loops;
    } in
    let consistent_releases : (s : State) (upto : ℕ) → IsConsistent s → IsConsistent (with_released s upto) = λ s upto w. record {
      laid_out = c.edit_laws.ensures.released s upto w.laid_out;
      names = w.names;
      links = c.link_numbers.ensures.released s upto w.links;
      no_loops = w.no_loops;
    } in
    record {
      fresh = λ v limit device_sectors is few room. fresh_well_formed v limit device_sectors is (c.fresh_reads.ensures.laid_out v limit device_sectors is few room) (c.fresh_reads.ensures.plain v limit device_sectors) (c.loops.ensures.history 0 0 0 0 []);
      of_names = steps;
      released = releases;
      history = kept_all steps releases;
      consistent = λ s place session call done w mode is. consistent s place session call done w (laid s place session call done w mode is) is;
      consistent_settled = settles;
      consistent_released = consistent_releases;
      consistent_event = laid_event consistent settles consistent_releases;
    }
