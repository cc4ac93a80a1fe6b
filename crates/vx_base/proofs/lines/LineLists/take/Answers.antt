use Rattle.std.proofs.Common.{arith, subst, sym, ap, ◌∙◌, ◌≡◌, ◌<◌, [], ◌∷◌, length, set, get_or, ℕ, zero, suc, List, map, slice_get, unwrap_or, Vec, Global}
use Rattle.std.specs.Vec.{with_item}
use Rattle.std.proofs.lemmas.List.{map-set}
use Rattle.vx_base.specs.declared.call.Call.{Call}
use Rattle.vx_base.specs.Lines.{lines_of}
use Rattle.vx_base.proofs.lines.LineLists.take.Goals as goal

-- the lines at an index are those of the list there
there : (lists : List (Vec Call Global)) (session line : ℕ) (v : Vec Call Global) → v ≡ get_or lists session v
    → line < length (unwrap_or (slice_get (map (λ (l : Vec Call Global). l.items) lists) session) []) → unwrap_or (slice_get (map (λ (l : Vec Call Global). l.items) lists) session) [] ≡ v.items
there [] session line v is low = absurd (omega arith)
there (l ∷ lists) zero line v is low = ap (λ (x : Vec Call Global). x.items) (sym is)
there (l ∷ lists) (suc session) line v is low = there lists session line v is low

-- src/lines.rt:76:5
pub returns-clause-left : goal.returns-clause-left
unfolding lines_of
returns-clause-left c =
    let is = there c.self.inside.lists.items c.args.session c.args.answered c.index_mut.result.now c.index_mut.ensures.value (subst (λ (ls : List (List Call)). c.args.answered < length (unwrap_or (slice_get ls c.args.session) [])) (sym c.self.view_is) c.requires) in
    map-set (λ (l : Vec Call Global). l.items) c.self.inside.lists.items c.args.session (with_item c.index_mut.result.now c.args.answered c.replace.new.dest)
    ∙ ap (λ (ls : List (List Call)). set ls c.args.session (set c.index_mut.result.now.items c.args.answered c.replace.new.dest)) c.self.view_is
    ∙ ap (λ (l : List Call). set c.args.self.now c.args.session (set l c.args.answered c.replace.new.dest)) (sym is ∙ ap (λ (ls : List (List Call)). unwrap_or (slice_get ls c.args.session) []) c.self.view_is)
    ∙ ap (λ (x : Call). set c.args.self.now c.args.session (set (lines_of c.args.self.now c.args.session) c.args.answered x)) c.replace.ensures.after
