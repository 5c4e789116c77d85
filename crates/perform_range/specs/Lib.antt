pub mod RangeSlicesLaws
