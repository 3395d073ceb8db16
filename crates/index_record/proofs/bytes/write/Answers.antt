use Rattle.std.proofs.Common.{◌∷◌, ◌++◌, ap, ◌∙◌}
use Rattle.std.specs.Int.{to_be_bytes, w64}
use Rattle.cache_base.specs.Bytes.{be16, be32}
use Rattle.index_record.proofs.bytes.write.Goals as goal

pub returns-clause-bytes : goal.returns-clause-bytes
returns-clause-bytes c =
    let r = c.args.r.now in
    c.joined.ensures
    ∙ ap (λ ys. r.name.0 ++ ys) c.numbers.ensures
    ∙ ap (λ n. r.name.0 ++ (be32 r.frecency ++ (to_be_bytes w64 r.origin ++ (be16 r.on_start ++ (be16 r.on_stop ++ r.content ∷ be32 n))))) c.stored.ensures

pub returns-clause-widths : goal.returns-clause-widths
returns-clause-widths c = record {
  name = (c.name_fits.ensures.length, c.name_fits.ensures.bytes);
  frecency = c.numbers_fit.ensures.frecency;
  origin = c.numbers_fit.ensures.origin;
  on_start = c.numbers_fit.ensures.on_start;
  on_stop = c.numbers_fit.ensures.on_stop;
  content = c.numbers_fit.ensures.content;
  flags = c.numbers_fit.ensures.flags;
}
