use Rattle.std.proofs.Common.{◌≡◌, ◌∷◌, ◌∙◌, Ok, arith, rules}
use Rattle.std.specs.Prelude.{map}
use Rattle.vx_grammar.specs.Lines.{lines_of}
use Rattle.vx_grammar.specs.Readings.{after_line}
use Rattle.vx_grammar.proofs.ReadingLaws.{after_sound, line_read, rises_further, calls_begin}
use Rattle.vx_grammar.proofs.script.read_lines.Goals as goal

pub lines-preserved : goal.lines-preserved
lines-preserved c =
    let read : after_line c.lines.reader c.lines.number c.in-Some.line.now ≡ Ok c.in-Ok.next = c.in-Ok.ensures.reads in
    let cut : lines_of c.lines.line-iterator.rest.now ≡ c.in-Some.line.now ∷ lines_of c.next.new.self.rest.now = search rules in
    record {
      whole = c.lines.invariant.whole ∙ rw cut (line_read c.lines.reader c.lines.number c.in-Some.line.now (lines_of c.next.new.self.rest.now) c.in-Ok.next read);
      sound = after_sound c.lines.reader c.lines.number c.in-Some.line.now c.in-Ok.next read c.lines.invariant.sound;
      few = omega (arith, c.in-Ok.ensures.few);
    }

pub returns-else-sessions-eq0-clause-whole : goal.returns-else-sessions-eq0-clause-whole
returns-else-sessions-eq0-clause-whole c = record {
  within = c.lines.invariant.sound.within;
  counted = c.lines.invariant.sound.counted;
  few_calls = omega (arith, c.lines.invariant.few, c.lines.invariant.sound.few, calls_begin c.lines.reader.sessions (omega (arith, c.if-sessions-eq0.false, c.sessions.ensures)));
  some = omega (arith, c.if-sessions-eq0.false, c.sessions.ensures);
  rising = rises_further 0 c.lines.number 65537 (map (λ d. d.number) c.lines.reader.commands) c.lines.invariant.few c.lines.invariant.sound.rising;
}
