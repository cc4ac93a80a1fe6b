-- What the kernel and a caller know once they have met, and the calls that are counted so.
use Rattle.std.proofs.Common.{◌≡◌, ℕ, ◌+◌, ◌<◌, ◌≤◌, max, List, [], ◌∷◌, ◌++◌, length, sym, ap, ◌∙◌, subst, arith, length-append}
use mathlib.Core.List.{IsPrefix}
use Rattle.vx_front.specs.declared.views.Entry.{Entry}
use Rattle.vx_front.specs.declared.views.KernelView.{KernelView}
use Rattle.vx_front.specs.declared.views.CallerView.{CallerView}
use Rattle.vx_front.specs.Views.{last_of, with_front, calls_by, known_of, told_of, with_fronts, with_entry, with_ended, with_begun, with_answer, kernel_note, caller_note, kernel_with_note, caller_with_note}
use Rattle.vx_front.specs.Steps.{CallerFacts, EndedFacts, AllEnded, KernelFacts, Agrees, IsIdle, IsAnswered}
use Rattle.vx_front.proofs.Rising.{last_more}
use Rattle.vx_front.proofs.Entries.{calls-push, calls_prefix, prefix_trans, prefix_whole, prefix_length, longer_of_both}
use Rattle.vx_front.proofs.Lists.{length_same, at_or_here}

abbrev met_kernel : KernelView → CallerView → KernelView
met_kernel k c = kernel_with_note k (caller_note c)

abbrev met_caller : KernelView → CallerView → CallerView
met_caller k c = caller_with_note c (kernel_note k)

met_agrees : (k : KernelView) (c : CallerView) → c.number ≤ k.made → KernelFacts (met_kernel k c) → CallerFacts (met_caller k c) → Agrees (met_kernel k c) (met_caller k c)
met_agrees k c made f g =
    let n = c.number in
    let told_room : n < length k.told = (let a = length_same k.told n c.mine in let b = f.told_len in omega arith) in
    let known_room : n < length k.known = (let a = length_same k.known n (max (known_of k n) c.begun) in let b = f.known_len in omega arith) in
    let told : told_of (met_kernel k c) n ≡ c.mine = at_or_here k.told n c.mine [] told_room in
    let known : known_of (met_kernel k c) n ≡ max (known_of k n) c.begun = at_or_here k.known n (max (known_of k n) c.begun) 0 known_room in record {
      seen = (longer_of_both c.seen k.log g.log g.past g.note).1;
      mine = subst (λ (l : List Entry). IsPrefix l (calls_by n k.log)) told (f.told n);
      opened = (let a = prefix_length (calls_by n k.log) (calls_by n g.log) (calls_prefix n k.log g.log g.note) in let b = g.opened in omega arith);
      known = omega arith;
    }

pub meeting_agrees : (k l : KernelView) (c d : CallerView) → l ≡ met_kernel k c → d ≡ met_caller k c → c.number ≤ k.made → KernelFacts l → CallerFacts d → Agrees l d
meeting_agrees k l c d kernel caller made f g =
    subst (λ (x : KernelView). Agrees x d) (sym kernel)
    (subst (λ (y : CallerView). Agrees (met_kernel k c) y) (sym caller) (met_agrees k c made (subst KernelFacts kernel f) (subst CallerFacts caller g)))

pub meeting_later : (k : KernelView) (c d : CallerView) → d ≡ met_caller k c → CallerFacts d → IsPrefix c.seen d.seen
meeting_later k c d caller g =
    let facts : CallerFacts (met_caller k c) = subst CallerFacts caller g in
    subst (λ (y : CallerView). IsPrefix c.seen y.seen) (sym caller) (longer_of_both c.seen k.log facts.log facts.past facts.note).0

-- the caller has seen what was opened between two meetings
pub may_close : (e : Entry) (k l : KernelView) (c d : CallerView) → Agrees l d → l.log ≡ k.log ++ e ∷ [] → d.number ≡ c.number → d.mine ≡ c.mine → e.caller ≡ c.number → c.mine ≡ calls_by c.number k.log
    → IsPrefix (d.mine ++ e ∷ []) (calls_by d.number d.seen)
may_close e k l c d after log number mine own all =
    let calls : calls_by c.number l.log ≡ c.mine ++ e ∷ [] = ap (calls_by c.number) log ∙ (calls-push c.number k.log e own ∙ ap (λ (x : List Entry). x ++ e ∷ []) (sym all)) in
    let prefix : IsPrefix (calls_by c.number l.log) (calls_by c.number d.seen) = calls_prefix c.number l.log d.seen after.seen in
    subst (λ (p : ℕ × List Entry). IsPrefix (p.1 ++ e ∷ []) (calls_by p.0 d.seen)) (λ i. (sym number i, sym mine i)) (subst (λ (x : List Entry). IsPrefix x (calls_by c.number d.seen)) calls prefix)

-- an idle caller's answered calls are all that the log has of it
pub idle_calls : (k : KernelView) (c : CallerView) → Agrees k c → IsIdle c → c.mine ≡ calls_by c.number k.log
idle_calls k c agrees idle = prefix_whole c.mine (calls_by c.number k.log) agrees.mine (let a = agrees.opened in omega arith)

pub meeting_calls : (k l : KernelView) (c d : CallerView) → d ≡ met_caller k c → Agrees l d → IsIdle c → calls_by d.number l.log ≡ d.mine
meeting_calls k l c d met agrees idle =
    let idle_still : IsIdle d = ap (λ (x : CallerView). x.begun) met ∙ (idle ∙ ap (λ (x : CallerView). length x.mine) (sym met)) in
    sym (idle_calls l d agrees idle_still)

-- the caller that ended last
last_ended : (k : KernelView) (cs : List CallerView) (c : CallerView) → AllEnded k (cs ++ c ∷ []) → EndedFacts k c
last_ended k [] c h = h.0
last_ended k (d ∷ ds) c h = last_ended k ds c h.1

pub ended_facts : (k l : KernelView) (c : CallerView) → l ≡ with_ended k c → KernelFacts l → EndedFacts l c
ended_facts k l c is f = subst (λ (x : KernelView). EndedFacts x c) (sym is) (last_ended (with_ended k c) k.ended c (subst KernelFacts is f).ended)

pub ended_calls : (l : KernelView) (c : CallerView) → EndedFacts l c → IsIdle c → calls_by c.number l.log ≡ c.mine
ended_calls l c f idle = sym (prefix_whole c.mine (calls_by c.number l.log) f.mine (let a = f.opened in omega arith))

-- The steps of one answered call, as the views stand after each
pub record Steps (e : Entry) (at : ℕ) (k : KernelView) (c : CallerView) (k1 : KernelView) (c1 c2 : CallerView) (k3 : KernelView) (c3 : CallerView) (k4 k5 k6 : KernelView) (c6 : CallerView) : Type 0 where
  pub own : e.caller ≡ c.number
  pub idle : IsIdle c
  pub met : k1 ≡ met_kernel k c
  pub met_first : c1 ≡ met_caller k c
  pub agree : Agrees k1 c1
  pub later : IsPrefix c.seen c1.seen
  pub begun : c2 ≡ with_begun c1
  pub met_again : k3 ≡ met_kernel k1 c2
  pub met_second : c3 ≡ met_caller k1 c2
  pub later_again : IsPrefix c2.seen c3.seen
  pub published : k4 ≡ with_fronts k3 (with_front k3.fronts at)
  pub opened : k5 ≡ with_entry k4 e
  pub met_last : k6 ≡ met_kernel k5 c3
  pub met_third : c6 ≡ met_caller k5 c3
  pub agree_last : Agrees k6 c6
  pub later_last : IsPrefix c3.seen c6.seen

module _ {e : Entry} {at : ℕ} {k : KernelView} {c : CallerView} {k1 : KernelView} {c1 c2 : CallerView} {k3 : KernelView} {c3 : CallerView} {k4 k5 k6 : KernelView} {c6 : CallerView} (s : Steps e at k c k1 c1 c2 k3 c3 k4 k5 k6 c6) where
  log_before : k4.log ≡ k.log
  log_before = ap (λ (x : KernelView). x.log) s.published ∙ (ap (λ (x : KernelView). x.log) s.met_again ∙ ap (λ (x : KernelView). x.log) s.met)

  log_after : k6.log ≡ k.log ++ e ∷ []
  log_after = ap (λ (x : KernelView). x.log) s.met_last ∙ (ap (λ (x : KernelView). x.log) s.opened ∙ ap (λ (x : List Entry). x ++ e ∷ []) log_before)

  fronts_before : k3.fronts ≡ k.fronts
  fronts_before = ap (λ (x : KernelView). x.fronts) s.met_again ∙ ap (λ (x : KernelView). x.fronts) s.met

  fronts_open : k5.fronts ≡ with_front k.fronts at
  fronts_open = ap (λ (x : KernelView). x.fronts) s.opened ∙ (ap (λ (x : KernelView). x.fronts) s.published ∙ ap (λ (x : List ℕ). with_front x at) fronts_before)

  number_after : c6.number ≡ c.number
  number_after = ap (λ (x : CallerView). x.number) s.met_third ∙ (ap (λ (x : CallerView). x.number) s.met_second ∙ (ap (λ (x : CallerView). x.number) s.begun ∙ ap (λ (x : CallerView). x.number) s.met_first))

  mine_after : c6.mine ≡ c.mine
  mine_after = ap (λ (x : CallerView). x.mine) s.met_third ∙ (ap (λ (x : CallerView). x.mine) s.met_second ∙ (ap (λ (x : CallerView). x.mine) s.begun ∙ ap (λ (x : CallerView). x.mine) s.met_first))

  reads_after : c6.reads ≡ c.reads
  reads_after = ap (λ (x : CallerView). x.reads) s.met_third ∙ (ap (λ (x : CallerView). x.reads) s.met_second ∙ (ap (λ (x : CallerView). x.reads) s.begun ∙ ap (λ (x : CallerView). x.reads) s.met_first))

  begun_after : c6.begun ≡ c.begun + 1
  begun_after = ap (λ (x : CallerView). x.begun) s.met_third ∙ (ap (λ (x : CallerView). x.begun) s.met_second ∙ (ap (λ (x : CallerView). x.begun) s.begun ∙ ap (λ (x : CallerView). x.begun + 1) s.met_first))

  all_before : c.mine ≡ calls_by c.number k.log
  all_before =
      let first : c1.mine ≡ c.mine = ap (λ (x : CallerView). x.mine) s.met_first in
      let idle : IsIdle c1 = ap (λ (x : CallerView). x.begun) s.met_first ∙ (s.idle ∙ ap length (sym first)) in
      sym first ∙ (idle_calls k1 c1 s.agree idle ∙ ap (λ (p : ℕ × List Entry). calls_by p.0 p.1) (λ i. ((s.met_first i).number, (s.met i).log)))

  pub closes_next : IsPrefix (c6.mine ++ e ∷ []) (calls_by c6.number c6.seen)
  closes_next = may_close e k k6 c c6 s.agree_last log_after number_after mine_after s.own all_before

  front_last : c6.front ≡ max c3.front (last_of k5.fronts)
  front_last = ap (λ (x : CallerView). x.front) s.met_third

  front_low : c.front ≤ c3.front
  front_low =
      let a : c3.front ≡ max c2.front (last_of k1.fronts) = ap (λ (x : CallerView). x.front) s.met_second in
      let b : c2.front ≡ max c.front (last_of k.fronts) = ap (λ (x : CallerView). x.front) s.begun ∙ ap (λ (x : CallerView). x.front) s.met_first in
      omega arith

  front_reached : at ≤ c6.front
  front_reached =
      let a : last_of k5.fronts ≡ max (last_of k.fronts) at = ap last_of fronts_open ∙ last_more k.fronts at in
      let b = front_last in
      omega arith

  later_all : IsPrefix c.seen c6.seen
  later_all =
      let second : IsPrefix c1.seen c3.seen = subst (λ (x : List Entry). IsPrefix x c3.seen) (ap (λ (x : CallerView). x.seen) s.begun) s.later_again in
      prefix_trans c.seen c1.seen c6.seen s.later (prefix_trans c1.seen c3.seen c6.seen second s.later_last)

  pub answers_call : (d : CallerView) → d ≡ with_answer c6 e → IsAnswered e at k c k6 d
  answers_call d closed =
      let mine : d.mine ≡ c.mine ++ e ∷ [] = ap (λ (x : CallerView). x.mine) closed ∙ ap (λ (x : List Entry). x ++ e ∷ []) mine_after in
      let calls : calls_by c.number k6.log ≡ c.mine ++ e ∷ [] = ap (calls_by c.number) log_after ∙ (calls-push c.number k.log e s.own ∙ ap (λ (x : List Entry). x ++ e ∷ []) (sym all_before)) in
      let begun : d.begun ≡ c.begun + 1 = ap (λ (x : CallerView). x.begun) closed ∙ begun_after in
      let seen : c6.seen ≡ d.seen = sym (ap (λ (x : CallerView). x.seen) closed) in
      let front : d.front ≡ c6.front = ap (λ (x : CallerView). x.front) closed in
      let low = front_low in
      let last = front_last in
      let reached = front_reached in record {
        log = log_after;
        fronts = ap (λ (x : KernelView). x.fronts) s.met_last ∙ fronts_open;
        made = ap (λ (x : KernelView). x.made) s.met_last ∙ (ap (λ (x : KernelView). x.made) s.opened ∙ (ap (λ (x : KernelView). x.made) s.published ∙ (ap (λ (x : KernelView). x.made) s.met_again ∙ ap (λ (x : KernelView). x.made) s.met)));
        ended = ap (λ (x : KernelView). x.ended) s.met_last ∙ (ap (λ (x : KernelView). x.ended) s.opened ∙ (ap (λ (x : KernelView). x.ended) s.published ∙ (ap (λ (x : KernelView). x.ended) s.met_again ∙ ap (λ (x : KernelView). x.ended) s.met)));
        number = ap (λ (x : CallerView). x.number) closed ∙ number_after;
        mine = mine;
        all = calls ∙ sym mine;
        idle = begun ∙ (ap (λ (n : ℕ). n + 1) s.idle ∙ (sym (length-append c.mine (e ∷ [])) ∙ ap length (sym mine)));
        later = subst (IsPrefix c.seen) seen later_all;
        seen = subst (IsPrefix k6.log) seen s.agree_last.seen;
        reads = ap (λ (x : CallerView). x.reads) closed ∙ reads_after;
        reaches = omega arith;
        rises = omega arith;
      }
