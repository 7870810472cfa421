-- The lines of warnings.
use Rattle.std.specs.Prelude.{ℕ, ◌==◌, if◌then◌else◌, List, [], ◌++◌, codes, decimal}
use Rattle.gx_policy.specs.declared.policy.PolicyData.{PolicyData}
use Rattle.gx_text.specs.{Moments.moment_text, declared.{moments.Decimals.TheVariants.{Six, Nine}, form.Form.{Form, TheVariants.{Text, Json}}}}
use Rattle.gx_json.specs.Parts.{member}
use Rattle.gx_warnings.specs.declared.warning.Warning.{Warning}
use Rattle.gx_monitor.specs.{Fields.warning_fields, Words.warning_text}

-- a warning, told at the moment of its record
unfoldable pub warning_line : Form → PolicyData → Warning → List ℕ
warning_line Text policy w = moment_text Six w.reading.moment ++ codes " " ++ warning_text policy w ++ codes ", record " ++ decimal w.reading.number ++ codes "\n"
warning_line Json policy w =
    codes "{\"at\":\"" ++ moment_text Nine w.reading.moment ++ codes "\"" ++ warning_fields policy w ++ member (codes "record") (decimal w.reading.number) ++ codes "}\n"

-- of a first use, which has the share 0, nothing is told
abbrev pub told_line : Form → PolicyData → Warning → List ℕ
told_line form policy w = if w.share == 0 then [] else warning_line form policy w
