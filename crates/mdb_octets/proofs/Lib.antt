pub mod ItemOctets
