use Rattle.std.proofs.Common.{refl, sym, ap, ◌∙◌}
use Rattle.std.specs.Str.{bytes_eq}
use Rattle.style_read.specs.Words.{gives_geometry}
use Rattle.style_read.proofs.words.gives_geometry.Goals as goal

pub returns-in-Some : goal.returns-in-Some
unfolding gives_geometry
returns-in-Some c = rw (sym c.source_of.ensures.source ∙ c.in-Some.is) record {
  gives =
      c.eq.ensures ∙ ap (bytes_eq c.args.geometry.now) c.geometry_of.ensures.word;
}

pub returns-in-None : goal.returns-in-None
unfolding gives_geometry
returns-in-None c = rw (sym c.source_of.ensures.source ∙ c.in-None.is) record { gives = refl }
