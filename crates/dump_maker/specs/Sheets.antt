-- The sheets of a mission database for made packets.
use Rattle.std.specs.Prelude.{List, [], ◌∷◌, codes}
use Rattle.mdb_items.specs.declared.sheet.RawMdb.{RawMdb}
use Rattle.mdb_items.specs.Texts.{Text}

-- records of four fields, and of six
abbrev four : Text → Text → Text → Text → List Text
four a b c d = a ∷ b ∷ c ∷ d ∷ []

abbrev six : Text → Text → Text → Text → Text → Text → List Text
six a b c d e f = a ∷ b ∷ c ∷ d ∷ e ∷ f ∷ []

-- degrees from hundredths of a degree, ten below
abbrev pub made_calibrations : List (List Text)
made_calibrations =
    four (codes "name") (codes "kind") (codes "x") (codes "y")
    ∷ four (codes "degrees") (codes "poly") (codes "0") (codes "-10")
    ∷ four (codes "degrees") (codes "poly") (codes "1") (codes "0.01")
    ∷ []

-- two of the primary header, and two of what is behind the time
abbrev pub made_parameters : List (List Text)
made_parameters =
    four (codes "name") (codes "coding") (codes "bits") (codes "calibration")
    ∷ four (codes "apid") (codes "uint") (codes "11") (codes "")
    ∷ four (codes "count") (codes "uint") (codes "14") (codes "")
    ∷ four (codes "temp") (codes "int") (codes "16") (codes "degrees")
    ∷ four (codes "level") (codes "uint") (codes "8") (codes "")
    ∷ []

-- housekeeping has the APIDs up to 20, science those above
abbrev pub made_containers : List (List Text)
made_containers =
    six (codes "container") (codes "parent") (codes "condition") (codes "archive") (codes "entry") (codes "position")
    ∷ six (codes "HDR") (codes "") (codes "") (codes "") (codes "apid") (codes "5")
    ∷ six (codes "") (codes "") (codes "") (codes "") (codes "count") (codes "18")
    ∷ six (codes "HK") (codes "HDR") (codes "apid<=20") (codes "yes") (codes "temp") (codes "96")
    ∷ six (codes "SCI") (codes "HDR") (codes "") (codes "yes") (codes "level") (codes "96")
    ∷ []

-- the three of them
abbrev pub made_sheets : RawMdb
made_sheets = record { parameters = made_parameters; calibrations = made_calibrations; containers = made_containers }
