-- What two ends agree on, as it is read from the payloads. Only private contracts cite this.
use Rattle.children.specs.Terms.{Terms}
use Rattle.children.specs.declared.making.AgreedTerms.{AgreedTerms}

abbrev pub terms_of : AgreedTerms → Terms
terms_of a = record {
  spi_i = a.spi_i;
  spi_r = a.spi_r;
  extended = a.extended;
  ts_i = a.ts_i.now;
  ts_r = a.ts_r.now;
}
